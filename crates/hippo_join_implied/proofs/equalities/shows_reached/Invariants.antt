-- The column is among the remaining ones exactly when it is among all.
use Rattle.std.proofs.Common.{◌≡◌, drop}
use Rattle.hippo_join_implied.specs.Implied.{shows_reached}
use Rattle.hippo_join_implied.proofs.equalities.shows_reached.Given as goal

abbrev pub invariant-loop-place : goal.invariant-loop-place
invariant-loop-place l = shows_reached (drop l.place l.reached) l.expr ≡ shows_reached l.reached l.expr
