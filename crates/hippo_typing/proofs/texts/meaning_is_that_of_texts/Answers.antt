use Rattle.hippo_typing.proofs.MeaningTheorem.{says_what_texts_mean}
use Rattle.hippo_typing.proofs.texts.meaning_is_that_of_texts.Goals as goal

pub returns : goal.returns
returns c = says_what_texts_mean
