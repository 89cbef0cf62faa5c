-- The columns so far.
use Rattle.std.proofs.Common.{◌≡◌, take, map}
use Rattle.hippo_audit_needs.specs.Seen.{column_in_query}
use Rattle.hippo_audit_needs.proofs.sharing.columns_in.Given as goal

abbrev pub invariant-loop-column : goal.invariant-loop-column
invariant-loop-column l = l.columns ≡ map (column_in_query l.query l.tables) (take l.column-index l.audit.columns)
