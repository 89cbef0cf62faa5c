-- The logged queries are looked at one after the other.
use Rattle.std.proofs.Common.{refl, Ok, length, ◌<◌}
use Rattle.hippo_backlog.specs.declared.faults.ReadFault.{ReadFault}
use Rattle.hippo_keeper.proofs.Results.{well}
use Rattle.hippo_audit_job.proofs.FlagLemmas.{LooksOn-as, LooksOn-fault, LooksOn-undecoded}
use Rattle.hippo_audit_job.proofs.LoopLemmas.{fewer_left, LooksOn-start, LooksOn-more, LooksOn-stop, MayLook-after, MayLook-first, IsAsFar-then}
use Rattle.hippo_audit_job.proofs.jobs.Job.look_at_waiting.Goals as goal

pub loop-entry-init : goal.loop-entry-init
loop-entry-init g c =
    (LooksOn-start g.X.Examiner.terms c.args.upto c.args.past.now c.args.self.now (g.P.Keeper.state c.args.keeper.now) c.args.steps.now c.requires.may, record { reached_is = refl; unbroken_is = refl })

pub look_at-requires-clause-may : goal.look_at-requires-clause-may
look_at-requires-clause-may g c =
    let found = rw c.in-Ok-Some.field-0-is at c.in-Ok-Some.ensures in
    MayLook-first g.X.Examiner.terms c.args.upto c.loop-entry.self (g.P.Keeper.state c.loop-entry.keeper)
    (MayLook-after g.X.Examiner.terms c.args.upto c.args.past.now c.args.self.now c.loop-entry.self (g.P.Keeper.state c.args.keeper.now) (g.P.Keeper.state c.loop-entry.keeper) c.args.steps.now c.loop-entry.steps c.requires.may c.loop-entry.invariant.0) c.in-Ok-Some.entry found.0 found.1

pub look_at-requires-clause-first : goal.look_at-requires-clause-first
look_at-requires-clause-first g c =
    let found = rw c.in-Ok-Some.field-0-is at c.in-Ok-Some.ensures in
    found.0

pub loop-entry-smaller : goal.loop-entry-smaller
loop-entry-smaller g c =
    let found = rw c.in-Ok-Some.field-0-is at c.in-Ok-Some.ensures in
    let fewer : length c.look_at.new.self.questions.waiting < length c.loop-entry.self.questions.waiting = rw c.in-Ok.ensures.used (fewer_left c.loop-entry.self.questions.waiting found.0.kept found.0.stands) in
    fewer

pub loop-entry-preserved : goal.loop-entry-preserved
loop-entry-preserved g c =
    let found = rw c.in-Ok-Some.field-0-is at c.in-Ok-Some.ensures in (
      LooksOn-more g.X.Examiner.terms c.args.upto c.args.past.now c.args.self.now c.loop-entry.self c.look_at.new.self (g.P.Keeper.state c.args.keeper.now) (g.P.Keeper.state c.loop-entry.keeper) (g.P.Keeper.state c.look_at.new.keeper) c.args.steps.now c.loop-entry.steps c.look_at.new.steps c.loop-entry.invariant.0 {B = Unit {0}} tt
          (LooksOn-as g.X.Examiner.terms c.in-Ok-Some.entry.seq c.args.upto c.args.past.now (Ok c.in-Ok.field-0) (well ReadFault) c.loop-entry.self c.look_at.new.self (g.P.Keeper.state c.loop-entry.keeper) (g.P.Keeper.state c.look_at.new.keeper) c.loop-entry.steps c.look_at.new.steps found.1 refl (λ other not e. absurd cc) c.in-Ok.ensures.looks),
      IsAsFar-then c.args.self.now c.loop-entry.self c.look_at.new.self c.loop-entry.invariant.1 c.in-Ok.ensures.others,
    )

pub returns-in-Err-look_at-clause-looks : goal.returns-in-Err-look_at-clause-looks
returns-in-Err-look_at-clause-looks g c =
    let found = rw c.in-Ok-Some.field-0-is at c.in-Ok-Some.ensures in
    LooksOn-stop g.X.Examiner.terms c.args.upto c.args.past.now c.args.self.now c.loop-entry.self c.look_at.new.self (g.P.Keeper.state c.args.keeper.now) (g.P.Keeper.state c.loop-entry.keeper) (g.P.Keeper.state c.look_at.new.keeper) c.args.steps.now c.loop-entry.steps c.look_at.new.steps c.loop-entry.invariant.0 (Unit {0}) c.in-Err-look_at.fault
    (LooksOn-fault g.X.Examiner.terms (Unit {0}) (Unit {0}) c.in-Ok-Some.entry.seq c.args.upto c.args.past.now c.in-Err-look_at.fault c.loop-entry.self c.look_at.new.self (g.P.Keeper.state c.loop-entry.keeper) (g.P.Keeper.state c.look_at.new.keeper) c.loop-entry.steps c.look_at.new.steps found.1 c.in-Err-look_at.ensures.looks)

pub returns-in-Err-look_at-clause-others : goal.returns-in-Err-look_at-clause-others
returns-in-Err-look_at-clause-others g c = IsAsFar-then c.args.self.now c.loop-entry.self c.look_at.new.self c.loop-entry.invariant.1 c.in-Err-look_at.ensures.others

pub returns-in-Ok-None-clause-looks : goal.returns-in-Ok-None-clause-looks
returns-in-Ok-None-clause-looks g c = c.loop-entry.invariant.0

pub returns-in-Ok-None-clause-past : goal.returns-in-Ok-None-clause-past
returns-in-Ok-None-clause-past g c = rw c.in-Ok-None.field-0-is at c.in-Ok-None.ensures

pub returns-in-Ok-None-clause-others : goal.returns-in-Ok-None-clause-others
returns-in-Ok-None-clause-others g c = c.loop-entry.invariant.1

pub returns-in-Err-clause-looks : goal.returns-in-Err-clause-looks
returns-in-Err-clause-looks g c =
    let may = MayLook-after g.X.Examiner.terms c.args.upto c.args.past.now c.args.self.now c.loop-entry.self (g.P.Keeper.state c.args.keeper.now) (g.P.Keeper.state c.loop-entry.keeper) c.args.steps.now c.loop-entry.steps c.requires.may c.loop-entry.invariant.0 in
    LooksOn-stop g.X.Examiner.terms c.args.upto c.args.past.now c.args.self.now c.loop-entry.self c.loop-entry.self (g.P.Keeper.state c.args.keeper.now) (g.P.Keeper.state c.loop-entry.keeper) (g.P.Keeper.state c.loop-entry.keeper) c.args.steps.now c.loop-entry.steps c.loop-entry.steps c.loop-entry.invariant.0 (Unit {0}) c.in-Err.fault
    (LooksOn-undecoded g.X.Examiner.terms (Unit {0}) c.loop-entry.self may.is_sound c.args.upto c.args.past.now (g.P.Keeper.state c.loop-entry.keeper) c.loop-entry.steps may.forward may.ready c.in-Err.ensures.kept c.in-Err.ensures.stands c.in-Err.fault c.in-Err.ensures.undecoded)

pub returns-in-Err-clause-others : goal.returns-in-Err-clause-others
returns-in-Err-clause-others g c = c.loop-entry.invariant.1
