-- The remaining equalities lead to what all of them lead to.
use Rattle.std.proofs.Common.{◌≡◌, drop}
use Rattle.hippo_join_implied.specs.Implied.{next_beyond}
use Rattle.hippo_join_implied.proofs.equalities.next_beyond.Given as goal

abbrev pub invariant-loop-place : goal.invariant-loop-place
invariant-loop-place l = next_beyond (drop l.place l.equalities) l.reached ≡ next_beyond l.equalities l.reached
