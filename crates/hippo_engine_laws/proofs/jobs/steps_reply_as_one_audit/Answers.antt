use Rattle.hippo_engine_laws.proofs.JobTheorem.{steps_reply_as_one_audit}
use Rattle.hippo_engine_laws.proofs.jobs.steps_reply_as_one_audit.Goals as goal

pub returns : goal.returns
returns c = steps_reply_as_one_audit
