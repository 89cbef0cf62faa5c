-- The rewritten query's answer over the remaining combinations.
use Rattle.hippo_audit_needs.proofs.QueryTheorem.{query-needs-over-rows}
use Rattle.hippo_audit_needs.proofs.laws.query_needs_over_rows.Goals as goal

pub returns : goal.returns
returns c = query-needs-over-rows c.rewriting_answers.ensures
