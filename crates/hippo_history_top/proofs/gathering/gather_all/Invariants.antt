-- The first part of the stored list is read and covered; each piece brings a higher number.
use Rattle.std.proofs.Common.{◌-◌, ◌^◌}
use Rattle.hippo_history_top.specs.Gathering.{IsGathering}
use Rattle.hippo_history_top.proofs.gathering.gather_all.Given as goal

abbrev pub invariant-loop-fault : goal.invariant-loop-fault
invariant-loop-fault g l = IsGathering (g.G.Gather.Covers l.initial.gathered l.asked) (g.G.Gather.Covers l.gathered l.asked) (g.P.Keeper.state l.initial.keeper) (g.P.Keeper.state l.keeper) l.number l.initial.steps l.steps

abbrev pub decreases-loop-fault : goal.decreases-loop-fault
decreases-loop-fault g l = 2 ^ 64 - l.number
