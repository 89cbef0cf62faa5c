-- Batches are read and applied one after the other.
use Rattle.std.proofs.Common.{◌-◌, Ok}
use Rattle.hippo_backlog.specs.Backlogs.{ReadsOn}
use Rattle.hippo_backlog.proofs.versions.Versions.advance_to.Given as goal

abbrev pub invariant-loop-fault : goal.invariant-loop-fault
invariant-loop-fault g l = ReadsOn {A = Unit {0}} l.schema l.number l.end (Ok tt) l.initial.self l.self (g.P.Keeper.state l.initial.keeper) (g.P.Keeper.state l.keeper) l.initial.steps l.steps

abbrev pub decreases-loop-fault : goal.decreases-loop-fault
decreases-loop-fault g l = l.number - l.self.ahead.reached
