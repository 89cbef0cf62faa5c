-- The first rows are those at the first places.
use Rattle.std.proofs.Common.{◌≡◌, length, take}
use Rattle.hippo_join_lookups.specs.Places.{chosen_rows}
use Rattle.hippo_join.proofs.planned.choose.Given as goal

abbrev pub invariant-loop-table : goal.invariant-loop-table
invariant-loop-table g l = (length l.rows ≡ length l.side.sets.now) × (take l.table l.rows ≡ take l.table (chosen_rows l.side.sets.now l.places))
