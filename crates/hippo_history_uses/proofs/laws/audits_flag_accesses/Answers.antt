use Rattle.hippo_history_uses.proofs.AuditLemmas.{audits_flag}
use Rattle.hippo_history_uses.proofs.laws.audits_flag_accesses.Goals as goal

pub returns : goal.returns
returns c = audits_flag c.audit_needs_what_it_has.ensures
