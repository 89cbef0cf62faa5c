use Rattle.hippo_model_laws.proofs.ValidFronts as fronts
use Rattle.hippo_model_laws.proofs.histories.valid_with_one_more.Goals as goal

pub returns : goal.returns
returns c = fronts.is_valid-append
