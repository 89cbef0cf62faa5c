-- The place so far is one of the remaining ones.
use Rattle.std.proofs.Common.{◌<◌, length}
use Rattle.hippo_join.proofs.orders.place_of_fewest.Given as goal

abbrev pub invariant-loop-place : goal.invariant-loop-place
invariant-loop-place g l = l.best < length l.left
