-- The tables so far are those below the next one.
use Rattle.std.proofs.Common.{◌≡◌}
use Rattle.std.specs.List.{range_with_len}
use Rattle.hippo_join.proofs.orders.tables_below.Given as goal

abbrev pub invariant-loop-table : goal.invariant-loop-table
invariant-loop-table l = l.tables.items ≡ range_with_len 0 l.table
