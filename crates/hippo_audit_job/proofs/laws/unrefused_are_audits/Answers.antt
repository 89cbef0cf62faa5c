use Rattle.hippo_audit_job.proofs.AuditLemmas.{unrefused_is_audit}
use Rattle.hippo_audit_job.proofs.laws.unrefused_are_audits.Goals as goal

pub returns : goal.returns
returns c = unrefused_is_audit
