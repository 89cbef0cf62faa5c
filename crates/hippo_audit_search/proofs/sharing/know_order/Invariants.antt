-- The rows of the tables so far are in the order of their keys.
use Rattle.std.proofs.Common.{map, take}
use Rattle.std.specs.List.{All}
use Rattle.hippo_tables_keyed.specs.RowSets.{IsAscending, key_in}
use Rattle.hippo_audit_search.proofs.sharing.know_order.Given as goal

abbrev pub invariant-loop-table : goal.invariant-loop-table
invariant-loop-table l = All (λ set. IsAscending (map (key_in set.key) set.rows)) (take l.table l.sets)
