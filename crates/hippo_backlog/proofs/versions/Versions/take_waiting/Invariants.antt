-- The versions that wait are applied one after the other.
use Rattle.std.proofs.Common.{Ok, length}
use Rattle.hippo_backlog.specs.Backlogs.{TakesWaiting}
use Rattle.hippo_backlog.proofs.versions.Versions.take_waiting.Given as goal

abbrev pub invariant-loop-fault : goal.invariant-loop-fault
invariant-loop-fault l = TakesWaiting {A = Unit {0}} l.schema l.number (Ok tt) l.initial.self l.self

abbrev pub decreases-loop-fault : goal.decreases-loop-fault
decreases-loop-fault l = length l.self.ahead.waiting
