-- The rows so far, followed by those of the remaining tables, are all.
use Rattle.std.proofs.Common.{◌≡◌, ◌++◌, drop}
use Rattle.hippo_join_lookups.specs.Places.{rows_at}
use Rattle.hippo_join_stages.proofs.sides.Side.rows.Given as goal

abbrev pub invariant-loop-table : goal.invariant-loop-table
invariant-loop-table g l = l.rows ++ rows_at (drop l.table l.self.sets.now) (drop l.table l.slots) ≡ rows_at l.self.sets.now l.slots
