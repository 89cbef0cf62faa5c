-- The parts so far and those for the columns that are still to be reached make up the list.
use Rattle.std.proofs.Common.{◌≡◌, ◌++◌, ◌-◌, ◌∷◌, [], map, length}
use Rattle.hippo_join_implied.specs.Implied.{implied_limit, moved_part, all_beyond}
use Rattle.hippo_join_implied.proofs.implied.add_beyond.Given as goal

abbrev pub invariant-loop-alloc : goal.invariant-loop-alloc
invariant-loop-alloc l =
    l.implied ++ map (λ other. moved_part l.from other l.part) (all_beyond (implied_limit - length l.implied) l.equalities l.reached)
    ≡ l.initial.implied ++ map (λ other. moved_part l.from other l.part) (all_beyond (implied_limit - length l.initial.implied) l.equalities (l.from ∷ []))

abbrev pub decreases-loop-alloc : goal.decreases-loop-alloc
decreases-loop-alloc l = implied_limit - length l.implied
