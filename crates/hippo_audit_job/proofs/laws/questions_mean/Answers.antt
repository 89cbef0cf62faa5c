use Rattle.hippo_audit_job.proofs.StretchLemmas.{question_means}
use Rattle.hippo_audit_job.proofs.laws.questions_mean.Goals as goal

pub returns : goal.returns
returns c = question_means
