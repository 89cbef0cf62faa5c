-- A virtual tuple serves exactly when the query needs it and both sides have it.
use Rattle.hippo_audit_needs.proofs.ServingTheorem.{needed-serves}
use Rattle.hippo_audit_needs.proofs.laws.needed_serves_first.Goals as goal

pub returns : goal.returns
returns c = needed-serves c.query_needs_over_rows.ensures c.audit_needs_what_it_has.ensures c.tuples_are_those_of_history.ensures c.columns_show_verdicts.ensures
