use Rattle.hippo_engine_laws.proofs.JobTheorem.{any_cut}
use Rattle.hippo_engine_laws.proofs.jobs.any_cut.Goals as goal

pub returns : goal.returns
returns c = any_cut
