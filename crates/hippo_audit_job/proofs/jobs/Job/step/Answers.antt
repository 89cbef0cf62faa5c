-- Batches are read and looked at until everything up to the step's end is read, or until a fault.
use Rattle.std.proofs.Common.{◌∙◌, sym, refl, arith, ◌-◌, ◌<◌}
use Rattle.hippo_backlog.specs.declared.faults.ReadFault.{ReadFault}
use Rattle.hippo_keeper.proofs.Results.{err_of, well}
use Rattle.hippo_audit_job.proofs.StepLemmas.{LooksOn-read}
use Rattle.hippo_audit_job.proofs.PassedLemmas.{LooksOn-passed, none_waiting, less_read}
use Rattle.hippo_audit_job.proofs.LoopLemmas.{LooksOn-start, LooksOn-more, LooksOn-stop, ready_after, MayLook-after, MayLook-step, HasStepped-failed, HasStepped-done}
use Rattle.hippo_audit_job.proofs.jobs.Job.step.Goals as goal

pub loop-fault-init : goal.loop-fault-init
loop-fault-init g c = (
  LooksOn-start g.X.Examiner.terms c.step_end-upto.result c.args.past.now c.args.self.now (g.P.Keeper.state c.args.keeper.now) c.args.steps.now
      (MayLook-step g.X.Examiner.terms c.step_end-upto.result c.args.self.now (g.P.Keeper.state c.args.keeper.now) c.args.count c.requires.ready c.requires.sound c.step_end-upto.ensures),
  refl,
)

pub look_at_waiting-requires : goal.look_at_waiting-requires
look_at_waiting-requires g c = record {
  may = MayLook-after g.X.Examiner.terms c.step_end-upto.result c.args.past.now c.args.self.now c.loop-fault.self (g.P.Keeper.state c.args.keeper.now) (g.P.Keeper.state c.loop-fault.keeper) c.args.steps.now c.loop-fault.steps
      (MayLook-step g.X.Examiner.terms c.step_end-upto.result c.args.self.now (g.P.Keeper.state c.args.keeper.now) c.args.count c.requires.ready c.requires.sound c.step_end-upto.ensures) c.loop-fault.invariant.0;
}

pub returns-in-Err : goal.returns-in-Err
returns-in-Err g c = record {
  stepped = HasStepped-failed g.X.Examiner.terms c.args.self.now c.args.count c.step_end-upto.result c.step_end-upto.ensures c.args.past.now c.look_at_waiting.new.self (g.P.Keeper.state c.args.keeper.now) (g.P.Keeper.state c.look_at_waiting.new.keeper) c.args.steps.now c.look_at_waiting.new.steps c.in-Err.fault
      (LooksOn-stop g.X.Examiner.terms c.step_end-upto.result c.args.past.now c.args.self.now c.loop-fault.self c.look_at_waiting.new.self (g.P.Keeper.state c.args.keeper.now) (g.P.Keeper.state c.loop-fault.keeper) (g.P.Keeper.state c.look_at_waiting.new.keeper) c.args.steps.now c.loop-fault.steps c.look_at_waiting.new.steps c.loop-fault.invariant.0 (Unit {0}) c.in-Err.fault c.in-Err.ensures.looks);
}

pub returns-then-has_read : goal.returns-then-has_read
returns-then-has_read g c =
    let whole = LooksOn-more g.X.Examiner.terms c.step_end-upto.result c.args.past.now c.args.self.now c.loop-fault.self c.look_at_waiting.new.self (g.P.Keeper.state c.args.keeper.now) (g.P.Keeper.state c.loop-fault.keeper) (g.P.Keeper.state c.look_at_waiting.new.keeper) c.args.steps.now c.loop-fault.steps c.look_at_waiting.new.steps c.loop-fault.invariant.0 c.in-Ok.field-0 c.in-Ok.ensures.looks in
    let length_is = whole.same_length in
    let may = MayLook-step g.X.Examiner.terms c.step_end-upto.result c.args.self.now (g.P.Keeper.state c.args.keeper.now) c.args.count c.requires.ready c.requires.sound c.step_end-upto.ensures in
    let within = may.within in
    record {
      stepped = HasStepped-done g.X.Examiner.terms c.args.self.now c.args.count c.step_end-upto.result c.step_end-upto.ensures c.args.past.now (record c.look_at_waiting.new.self { place = c.step_end-upto.result }) (g.P.Keeper.state c.args.keeper.now) (g.P.Keeper.state c.look_at_waiting.new.keeper) c.args.steps.now c.look_at_waiting.new.steps
          (LooksOn-more g.X.Examiner.terms c.step_end-upto.result c.args.past.now c.args.self.now c.look_at_waiting.new.self (record c.look_at_waiting.new.self { place = c.step_end-upto.result }) (g.P.Keeper.state c.args.keeper.now) (g.P.Keeper.state c.look_at_waiting.new.keeper) (g.P.Keeper.state c.look_at_waiting.new.keeper) c.args.steps.now c.look_at_waiting.new.steps c.look_at_waiting.new.steps whole {B = Unit {0}} tt
          (LooksOn-passed g.X.Examiner.terms c.step_end-upto.result c.args.past.now c.look_at_waiting.new.self (g.P.Keeper.state c.look_at_waiting.new.keeper) c.look_at_waiting.new.steps (ready_after g.X.Examiner.terms c.step_end-upto.result c.args.past.now c.args.self.now c.look_at_waiting.new.self (g.P.Keeper.state c.args.keeper.now) (g.P.Keeper.state c.look_at_waiting.new.keeper) c.args.steps.now c.look_at_waiting.new.steps whole) whole.is_sound whole.limit (omega (arith, length_is, within)) c.in-Ok.ensures.past (sym c.has_read.ensures ∙ c.if-has_read.true)))
          refl (c.in-Ok.ensures.others.unbroken_is ∙ c.loop-fault.invariant.1);
    }

pub read_ahead-requires-clause-ready : goal.read_ahead-requires-clause-ready
read_ahead-requires-clause-ready g c =
    let whole = LooksOn-more g.X.Examiner.terms c.step_end-upto.result c.args.past.now c.args.self.now c.loop-fault.self c.look_at_waiting.new.self (g.P.Keeper.state c.args.keeper.now) (g.P.Keeper.state c.loop-fault.keeper) (g.P.Keeper.state c.look_at_waiting.new.keeper) c.args.steps.now c.loop-fault.steps c.look_at_waiting.new.steps c.loop-fault.invariant.0 c.in-Ok.field-0 c.in-Ok.ensures.looks in
    ready_after g.X.Examiner.terms c.step_end-upto.result c.args.past.now c.args.self.now c.look_at_waiting.new.self (g.P.Keeper.state c.args.keeper.now) (g.P.Keeper.state c.look_at_waiting.new.keeper) c.args.steps.now c.look_at_waiting.new.steps whole

pub read_ahead-requires-clause-used : goal.read_ahead-requires-clause-used
read_ahead-requires-clause-used g c = none_waiting c.step_end-upto.result c.look_at_waiting.new.self.questions (sym c.has_read.ensures ∙ c.if-has_read.false)

pub loop-fault-smaller : goal.loop-fault-smaller
loop-fault-smaller g c =
    let whole = LooksOn-more g.X.Examiner.terms c.step_end-upto.result c.args.past.now c.args.self.now c.loop-fault.self c.look_at_waiting.new.self (g.P.Keeper.state c.args.keeper.now) (g.P.Keeper.state c.loop-fault.keeper) (g.P.Keeper.state c.look_at_waiting.new.keeper) c.args.steps.now c.loop-fault.steps c.look_at_waiting.new.steps c.loop-fault.invariant.0 c.in-Ok.field-0 c.in-Ok.ensures.looks in
    let less = less_read c.step_end-upto.result c.look_at_waiting.new.self.questions (sym c.has_read.ensures ∙ c.if-has_read.false) in
    let same = c.in-Ok.ensures.others.reached_is in
    let length_is = whole.same_length in
    let may = MayLook-step g.X.Examiner.terms c.step_end-upto.result c.args.self.now (g.P.Keeper.state c.args.keeper.now) c.args.count c.requires.ready c.requires.sound c.step_end-upto.ensures in
    let within = may.within in
    let more = c.in-Ok-read_ahead.ensures.reads.onward (omega (arith, less, length_is, within)) in
    let smaller : c.step_end-upto.result - c.read_ahead.new.questions.reached < c.step_end-upto.result - c.loop-fault.self.questions.reached = omega (arith, less, same, more) in
    smaller

pub loop-fault-preserved : goal.loop-fault-preserved
loop-fault-preserved g c =
    let whole = LooksOn-more g.X.Examiner.terms c.step_end-upto.result c.args.past.now c.args.self.now c.loop-fault.self c.look_at_waiting.new.self (g.P.Keeper.state c.args.keeper.now) (g.P.Keeper.state c.loop-fault.keeper) (g.P.Keeper.state c.look_at_waiting.new.keeper) c.args.steps.now c.loop-fault.steps c.look_at_waiting.new.steps c.loop-fault.invariant.0 c.in-Ok.field-0 c.in-Ok.ensures.looks in
    (LooksOn-more g.X.Examiner.terms c.step_end-upto.result c.args.past.now c.args.self.now c.look_at_waiting.new.self (record c.look_at_waiting.new.self { questions = c.read_ahead.new.questions }) (g.P.Keeper.state c.args.keeper.now) (g.P.Keeper.state c.look_at_waiting.new.keeper) (g.P.Keeper.state c.read_ahead.new.keeper) c.args.steps.now c.look_at_waiting.new.steps c.look_at_waiting.new.steps whole {B = Unit {0}} tt (LooksOn-read g.X.Examiner.terms c.step_end-upto.result c.args.past.now c.look_at_waiting.new.self (well ReadFault) c.read_ahead.new.questions (g.P.Keeper.state c.look_at_waiting.new.keeper) (g.P.Keeper.state c.read_ahead.new.keeper) c.look_at_waiting.new.steps whole.is_sound whole.limit (none_waiting c.step_end-upto.result c.look_at_waiting.new.self.questions (sym c.has_read.ensures ∙ c.if-has_read.false)) c.in-Ok-read_ahead.ensures.reads), c.in-Ok.ensures.others.unbroken_is ∙ c.loop-fault.invariant.1)

pub returns-in-Err-read_ahead : goal.returns-in-Err-read_ahead
returns-in-Err-read_ahead g c =
    let whole = LooksOn-more g.X.Examiner.terms c.step_end-upto.result c.args.past.now c.args.self.now c.loop-fault.self c.look_at_waiting.new.self (g.P.Keeper.state c.args.keeper.now) (g.P.Keeper.state c.loop-fault.keeper) (g.P.Keeper.state c.look_at_waiting.new.keeper) c.args.steps.now c.loop-fault.steps c.look_at_waiting.new.steps c.loop-fault.invariant.0 c.in-Ok.field-0 c.in-Ok.ensures.looks in
    record {
      stepped = HasStepped-failed g.X.Examiner.terms c.args.self.now c.args.count c.step_end-upto.result c.step_end-upto.ensures c.args.past.now (record c.look_at_waiting.new.self { questions = c.read_ahead.new.questions }) (g.P.Keeper.state c.args.keeper.now) (g.P.Keeper.state c.read_ahead.new.keeper) c.args.steps.now c.look_at_waiting.new.steps c.in-Err-read_ahead.fault
          (LooksOn-stop g.X.Examiner.terms c.step_end-upto.result c.args.past.now c.args.self.now c.look_at_waiting.new.self (record c.look_at_waiting.new.self { questions = c.read_ahead.new.questions }) (g.P.Keeper.state c.args.keeper.now) (g.P.Keeper.state c.look_at_waiting.new.keeper) (g.P.Keeper.state c.read_ahead.new.keeper) c.args.steps.now c.look_at_waiting.new.steps c.look_at_waiting.new.steps whole (Unit {0}) c.in-Err-read_ahead.fault (LooksOn-read g.X.Examiner.terms c.step_end-upto.result c.args.past.now c.look_at_waiting.new.self (err_of (Unit {0}) c.in-Err-read_ahead.fault) c.read_ahead.new.questions (g.P.Keeper.state c.look_at_waiting.new.keeper) (g.P.Keeper.state c.read_ahead.new.keeper) c.look_at_waiting.new.steps whole.is_sound whole.limit (none_waiting c.step_end-upto.result c.look_at_waiting.new.self.questions (sym c.has_read.ensures ∙ c.if-has_read.false)) c.in-Err-read_ahead.ensures.reads));
    }
