-- A plain query needs what it has over the rows.
use Rattle.hippo_audit_needs.proofs.PlainTheorem.{query-needs}
use Rattle.hippo_audit_needs.proofs.laws.query_needs_what_it_has.Goals as goal

pub returns : goal.returns
returns c = query-needs c.query_needs_over_rows.ensures
