-- Each deed is done by its own method: the method's requirements hold, and its effect is that of
-- the deed's command.
use Rattle.std.proofs.Common.{ℕ, Ok, sym, subst}
use Rattle.hippo_keeper.specs.Keeping.{KeeperState}
use Rattle.hippo_stmt_lines.specs.Commands.{Command}
use Rattle.hippo_engine.specs.declared.engine.Engine.{Engine}
use Rattle.hippo_engine.specs.Carrying.{AtWork, IsQuiet, AddsNothing, Carries}
use Rattle.hippo_engine.proofs.CarryingLemmas.{Carries-nothing, Carries-quiet}
use Rattle.hippo_engine.proofs.ChangeLemmas.{changes_by}
use Rattle.hippo_engine.proofs.JobLemmas.{AddsNothing-does}
use Rattle.hippo_engine_lines.proofs.lines.perform.Goals as goal

-- a deed that adds nothing
module _ {command : Command} {old new : Engine} {keeper : KeeperState} {steps : ℕ} (at_work : AtWork old keeper) where
  by_nothing : AddsNothing command old new → Carries {A = Unit {0}} command (Ok tt) old new keeper keeper steps steps
  by_nothing adds = Carries-nothing command old new keeper steps at_work adds

  by_quiet : IsQuiet command old new → Carries {A = Unit {0}} command (Ok tt) old new keeper keeper steps steps
  by_quiet quiet = Carries-quiet command old new keeper steps at_work quiet

pub returns-in-DoNothing-clause-performs : goal.returns-in-DoNothing-clause-performs
returns-in-DoNothing-clause-performs g c = rw c.in-DoNothing.is (λ command does. by_quiet c.requires.at_work (c.do_nothing.ensures command does))

pub returns-in-SetClock-clause-performs : goal.returns-in-SetClock-clause-performs
returns-in-SetClock-clause-performs g c = rw c.in-SetClock.is (λ command does. by_quiet c.requires.at_work (c.set_clock.ensures command does))

pub returns-in-LogIn-clause-performs : goal.returns-in-LogIn-clause-performs
returns-in-LogIn-clause-performs g c =
    let opens = rw (c.into_inner.ensures, c.into_inner-in-LogIn.ensures) at c.log_in.ensures in
    rw c.in-LogIn.is (λ command does. by_quiet c.requires.at_work (opens command does))

pub returns-in-LogOut-clause-performs : goal.returns-in-LogOut-clause-performs
returns-in-LogOut-clause-performs g c = rw c.in-LogOut.is (λ command does. by_quiet c.requires.at_work (c.log_out.ensures command does))

pub hand_out-requires : goal.hand_out-requires
hand_out-requires g c = rw c.in-HandOut.is at c.requires.needs

pub returns-in-HandOut-clause-performs : goal.returns-in-HandOut-clause-performs
returns-in-HandOut-clause-performs g c = rw c.in-HandOut.is (λ command does. by_quiet c.requires.at_work (c.hand_out.ensures command does))

pub returns-in-CloseCursor-clause-performs : goal.returns-in-CloseCursor-clause-performs
returns-in-CloseCursor-clause-performs g c = rw c.in-CloseCursor.is (λ command does. by_quiet c.requires.at_work (c.close_cursor.ensures command does))

pub step_job-requires-clause-there : goal.step_job-requires-clause-there
step_job-requires-clause-there g c = let needs = rw c.in-StepJob.is at c.requires.needs in (needs.1.1.job, needs.1.1.there)

pub returns-in-StepJob-clause-performs : goal.returns-in-StepJob-clause-performs
returns-in-StepJob-clause-performs g c =
    rw c.in-StepJob.is
    (λ command does.
    subst (λ (one : Command). Carries one c.step_job.result c.args.engine.now c.step_job.new.engine (g.P.Keeper.state c.args.keeper.now) (g.P.Keeper.state c.step_job.new.keeper) c.args.steps.now c.step_job.new.steps) (sym does.0) c.step_job.ensures.carries)

pub drop_job-requires : goal.drop_job-requires
drop_job-requires g c = let needs = rw c.in-DropJob.is at c.requires.needs in record { there = (needs.1.1.job, needs.1.1.there) }

pub returns-in-DropJob-clause-performs : goal.returns-in-DropJob-clause-performs
returns-in-DropJob-clause-performs g c =
    rw c.in-DropJob.is
    (λ command does. by_nothing c.requires.at_work (subst (λ (one : Command). AddsNothing one c.args.engine.now c.drop_job.new.self) (sym does.0) c.drop_job.ensures))

pub returns-in-EndWatch-clause-performs : goal.returns-in-EndWatch-clause-performs
returns-in-EndWatch-clause-performs g c = rw c.in-EndWatch.is (λ command does. by_nothing c.requires.at_work (c.end_watch.ensures command does))

pub change-requires-clause-number : goal.change-requires-clause-number
change-requires-clause-number g c = let needs = rw c.in-Change.is at c.requires.needs in needs.1.number

pub change-requires-clause-follows : goal.change-requires-clause-follows
change-requires-clause-follows g c = let needs = rw c.in-Change.is at c.requires.needs in needs.1.follows

pub returns-in-Change-clause-performs : goal.returns-in-Change-clause-performs
returns-in-Change-clause-performs g c =
    rw c.in-Change.is (λ command does. c.change.ensures.carries command c.args.steps.now (changes_by command c.in-Change.entry c.args.engine.now does))

pub answer_question-requires-clause-needs : goal.answer_question-requires-clause-needs
answer_question-requires-clause-needs g c = rw c.in-Ask.is at c.requires.needs

pub returns-in-Ask-clause-performs : goal.returns-in-Ask-clause-performs
returns-in-Ask-clause-performs g c = rw c.in-Ask.is (λ command does. c.answer_question.ensures.carries command c.args.steps.now does)

pub returns-in-Explain-clause-performs : goal.returns-in-Explain-clause-performs
returns-in-Explain-clause-performs g c = rw c.in-Explain.is c.explain.ensures.explained

pub audit_history-requires-clause-differ : goal.audit_history-requires-clause-differ
audit_history-requires-clause-differ g c = let needs = rw c.in-Audit.is at c.requires.needs in needs.1.1.differ

pub returns-in-Audit-clause-performs : goal.returns-in-Audit-clause-performs
returns-in-Audit-clause-performs g c = rw c.in-Audit.is c.audit_history.ensures.carries

pub begin_audit-requires : goal.begin_audit-requires
begin_audit-requires g c = let needs = rw c.in-BeginAudit.is at c.requires.needs in record { differ = rw c.into_inner-in-BeginAudit.ensures needs.1.1.differ }

pub returns-in-BeginAudit-clause-performs : goal.returns-in-BeginAudit-clause-performs
returns-in-BeginAudit-clause-performs g c =
    rw c.in-BeginAudit.is
    (λ command does. by_nothing c.requires.at_work (AddsNothing-does command c.in-BeginAudit.job c.in-BeginAudit.audit c.args.engine.now c.begin_audit.new.self does (rw c.into_inner-in-BeginAudit.ensures at c.begin_audit.ensures)))

pub watch-requires : goal.watch-requires
watch-requires g c = let needs = rw c.in-Watch.is at c.requires.needs in record { differ = rw c.into_inner-in-Watch.ensures needs.1.1.differ }

pub returns-in-Watch-clause-performs : goal.returns-in-Watch-clause-performs
returns-in-Watch-clause-performs g c =
    let watches = rw c.into_inner-in-Watch.ensures at c.watch.ensures in
    rw c.in-Watch.is (λ command does. by_nothing c.requires.at_work (watches command does))
