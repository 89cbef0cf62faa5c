-- The rows so far, followed by those of the remaining tables.
use Rattle.std.proofs.Common.{◌≡◌, ◌++◌, drop, filter_map}
use Rattle.hippo_combine.specs.Held.{rows_held}
use Rattle.hippo_combine.proofs.held.sets_of.Given as goal

abbrev pub invariant-loop-table : goal.invariant-loop-table
invariant-loop-table l =
    l.sets ++ filter_map (rows_held l.tables) (drop l.table-index l.names) ≡ filter_map (rows_held l.tables) l.names
