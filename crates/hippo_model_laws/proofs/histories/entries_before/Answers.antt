use Rattle.hippo_model_laws.proofs.ValidFronts as fronts
use Rattle.hippo_model_laws.proofs.histories.entries_before.Goals as goal

pub returns : goal.returns
returns c = fronts.entries_before
