use Rattle.hippo_audit_job.proofs.StretchLemmas.{stretch_lasts}
use Rattle.hippo_audit_job.proofs.laws.stretches_last.Goals as goal

pub returns : goal.returns
returns c = λ meaning history later audit above upto valid within. stretch_lasts meaning audit later history above upto valid within
