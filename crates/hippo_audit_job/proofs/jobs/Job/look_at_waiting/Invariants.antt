-- The logged queries that wait are looked at one after the other.
use Rattle.std.proofs.Common.{Ok, length}
use Rattle.hippo_audit_job.specs.Jobs.{IsAsFar, LooksOn}
use Rattle.hippo_audit_job.proofs.jobs.Job.look_at_waiting.Given as goal

abbrev pub invariant-loop-entry : goal.invariant-loop-entry
invariant-loop-entry g l =
    LooksOn {A = Unit {0}} g.X.Examiner.terms l.upto l.past (Ok tt) l.initial.self l.self (g.P.Keeper.state l.initial.keeper) (g.P.Keeper.state l.keeper) l.initial.steps l.steps
    × IsAsFar l.initial.self l.self

abbrev pub decreases-loop-entry : goal.decreases-loop-entry
decreases-loop-entry g l = length l.self.questions.waiting
