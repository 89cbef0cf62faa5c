-- The first combinations were visited.
use Rattle.std.proofs.Common.{◌≡◌, length}
use Rattle.hippo_join_lookups.specs.Places.{chosen_rows}
use Rattle.hippo_join.proofs.PlannedLemmas.{HasTold}
use Rattle.hippo_join.proofs.planned.visit_each.Given as goal

abbrev pub invariant-loop-places : goal.invariant-loop-places
invariant-loop-places g l =
    (length l.rows ≡ length l.side.sets.now) × HasTold (g.V.Visitor.Keeps l.visitor) (chosen_rows l.side.sets.now) l.found.keys l.places-iterator l.initial.state l.state
