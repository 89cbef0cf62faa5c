use Rattle.hippo_model_laws.proofs.TruthWithChange.{agrees}
use Rattle.hippo_model_laws.proofs.conditions.truth_is_that_of_operands.Goals as goal

pub returns : goal.returns
returns g c = agrees
