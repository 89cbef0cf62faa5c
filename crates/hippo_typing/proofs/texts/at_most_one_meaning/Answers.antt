use Rattle.hippo_typing.proofs.MeaningTheorem.{one_meaning}
use Rattle.hippo_typing.proofs.texts.at_most_one_meaning.Goals as goal

pub returns : goal.returns
returns c = one_meaning
