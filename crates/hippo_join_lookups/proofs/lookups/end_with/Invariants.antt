-- None before the place is above.
use Rattle.hippo_join_lookups.specs.Lookups.{NoneAbove}
use Rattle.hippo_join_lookups.proofs.lookups.end_with.Given as goal

abbrev pub invariant-loop-end : goal.invariant-loop-end
invariant-loop-end l = NoneAbove l.values l.value l.start l.end
