-- The key so far, followed by the values in the remaining columns, is the row's key.
use Rattle.std.proofs.Common.{◌≡◌, ◌++◌, map, drop}
use Rattle.hippo_tables_keyed.specs.RowSets.{key_in}
use Rattle.hippo_join_lookups.specs.Places.{row_at_place}
use Rattle.hippo_join_lookups.specs.Lookups.{value_at_place}
use Rattle.hippo_audit_search.proofs.tuples.key_at.Given as goal

abbrev pub invariant-loop-column : goal.invariant-loop-column
invariant-loop-column l = l.key ++ map (λ column. value_at_place l.set column l.place) (drop l.column-index l.set.key) ≡ key_in l.set.key (row_at_place l.set.rows l.place)
