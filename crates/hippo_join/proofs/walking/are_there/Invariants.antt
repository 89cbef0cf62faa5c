-- The remaining places exist exactly when all do.
use Rattle.std.proofs.Common.{◌≡◌, drop}
use Rattle.hippo_join_lookups.specs.Places.{are_there}
use Rattle.hippo_join.proofs.walking.are_there.Given as goal

abbrev pub invariant-loop-table : goal.invariant-loop-table
invariant-loop-table g l = are_there (drop l.table l.side.sets.now) (drop l.table l.slots) ≡ are_there l.side.sets.now l.slots
