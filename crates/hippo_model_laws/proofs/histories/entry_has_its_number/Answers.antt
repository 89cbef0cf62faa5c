use Rattle.hippo_model_laws.proofs.ValidFronts as fronts
use Rattle.hippo_model_laws.proofs.histories.entry_has_its_number.Goals as goal

pub returns : goal.returns
returns c = fronts.entry_has_its_number
