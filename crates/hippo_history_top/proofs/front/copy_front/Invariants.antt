-- The first part of the stored list is copied; each piece brings more entries.
use Rattle.std.proofs.Common.{◌-◌, length}
use Rattle.hippo_history_top.specs.Fronts.{IsCopying}
use Rattle.hippo_history_top.proofs.front.copy_front.Given as goal

abbrev pub invariant-loop-front : goal.invariant-loop-front
invariant-loop-front g l = IsCopying l.count (g.P.Keeper.state l.initial.keeper) (g.P.Keeper.state l.keeper) l.front l.initial.steps l.steps

abbrev pub decreases-loop-front : goal.decreases-loop-front
decreases-loop-front g l = l.count - length l.front.entries.items
