-- The first part of the stored list is read and taken in; each piece makes the state longer.
use Rattle.std.proofs.Common.{◌-◌, ◌^◌}
use Rattle.hippo_replay.specs.Reading.{IsReading}
use Rattle.hippo_replay.proofs.loading.read_all.Given as goal

abbrev pub invariant-loop-fault : goal.invariant-loop-fault
invariant-loop-fault g l = IsReading (g.P.Keeper.state l.initial.keeper) (g.P.Keeper.state l.keeper) l.state l.initial.steps l.steps

abbrev pub decreases-loop-fault : goal.decreases-loop-fault
decreases-loop-fault g l = 2 ^ 64 - l.state.count
