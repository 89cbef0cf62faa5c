use Rattle.hippo_history_laws.proofs.BareTheorem.{questions_are_bare}
use Rattle.hippo_history_laws.proofs.scripts.questions_are_bare.Goals as goal

pub returns : goal.returns
returns c = questions_are_bare
