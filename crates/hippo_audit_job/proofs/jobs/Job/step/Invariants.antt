-- Batches are read and looked at one after the other.
use Rattle.std.proofs.Common.{◌≡◌, ◌-◌, Ok}
use Rattle.hippo_audit_job.specs.Jobs.{LooksOn}
use Rattle.hippo_audit_job.proofs.jobs.Job.step.Given as goal

abbrev pub invariant-loop-fault : goal.invariant-loop-fault
invariant-loop-fault g l =
    LooksOn {A = Unit {0}} g.X.Examiner.terms l.upto l.past (Ok tt) l.initial.self l.self (g.P.Keeper.state l.initial.keeper) (g.P.Keeper.state l.keeper) l.initial.steps l.steps
    × (l.self.unbroken ≡ l.initial.self.unbroken)

abbrev pub decreases-loop-fault : goal.decreases-loop-fault
decreases-loop-fault g l = l.upto - l.self.questions.reached
