-- The values so far are those at the first places.
use Rattle.std.proofs.Common.{◌≡◌, map, take}
use Rattle.hippo_join_lookups.specs.Lookups.{value_at_place}
use Rattle.hippo_join_lookups.proofs.lookups.values_at.Given as goal

abbrev pub invariant-loop-place : goal.invariant-loop-place
invariant-loop-place l = l.values.items ≡ map (value_at_place l.set l.column) (take l.place-index l.places)
