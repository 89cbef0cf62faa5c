use Rattle.std.proofs.Common.{◌-◌, take, drop}
use Rattle.hippo_audit_job.proofs.StretchLemmas.{no_questions}
use Rattle.hippo_audit_job.proofs.laws.no_questions_no_flags.Goals as goal

pub returns : goal.returns
returns c = λ meaning history audit above upto none. no_questions meaning history audit (take (upto - above) (drop above history)) none
