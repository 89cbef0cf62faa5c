-- The places in the tables so far.
use Rattle.std.proofs.Common.{◌≡◌, map, take}
use Rattle.hippo_audit_search.specs.Marks.{row_place}
use Rattle.hippo_audit_search.proofs.marks.row_places.Given as goal

abbrev pub invariant-loop-table : goal.invariant-loop-table
invariant-loop-table l = l.places.items ≡ map (row_place l.sets l.rows) (take l.table-index l.tables)
