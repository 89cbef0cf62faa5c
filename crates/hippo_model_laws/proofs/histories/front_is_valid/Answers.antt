use Rattle.hippo_model_laws.proofs.ValidFronts as fronts
use Rattle.hippo_model_laws.proofs.histories.front_is_valid.Goals as goal

pub returns : goal.returns
returns c = fronts.front_is_valid
