-- The first tuple that a plain query shares is the first that it needs.
use Rattle.hippo_audit_needs.proofs.PlainTheorem.{shared-serves}
use Rattle.hippo_audit_needs.proofs.laws.shared_serves_first.Goals as goal

pub returns : goal.returns
returns c = shared-serves c.needed_serves_first.ensures
