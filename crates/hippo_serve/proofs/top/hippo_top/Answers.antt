-- Each status is listed; the result of a check follows from its status, over the store that the
-- words name.
use Rattle.std.proofs.Common.{rules, refl, sym, subst, ◌∙◌}
use Rattle.hippo_values.specs.Texts.{Txt}
use Rattle.hippo_io.specs.Inputs.{exposed}
use Rattle.hippo_io.specs.Told.{Appends, AppendsFront}
use Rattle.hippo_program_args.specs.Starting.{IsIdle}
use Rattle.hippo_serve.specs.Asking.{store_of}
use Rattle.hippo_serve_jobs.specs.Outside.{outside}
use Rattle.hippo_serve.proofs.AskingLemmas.{status-6, run_as_asked, check_as_asked, tells_as_asked, idle_as_asked, summary_as_asked, said_whole, said_front}
use Rattle.hippo_serve_jobs.proofs.StatusLemmas.{status-listed, status-7}
use Rattle.hippo_keeper.proofs.TellingLemmas.{TellsOnceStarted-same}
use Rattle.hippo_serve.proofs.top.hippo_top.Goals as goal

pub returns-in_default-asked-clause-status : goal.returns-in_default-asked-clause-status
returns-in_default-asked-clause-status g c = status-listed c.refuse.result _ c.status-in_default-asked.ensures

pub returns-in-Run-clause-status : goal.returns-in-Run-clause-status
returns-in-Run-clause-status g c = status-listed c.run.result _ c.status-in-Run.ensures

pub returns-in-Check-clause-status : goal.returns-in-Check-clause-status
returns-in-Check-clause-status g c = status-listed c.check.result _ c.status-in-Check.ensures

pub returns-clause-status : goal.returns-clause-status
returns-clause-status g c = status-listed c.drill.result _ c.status-in-Drill.ensures

pub returns-in-Run-clause-served : goal.returns-in-Run-clause-served
returns-in-Run-clause-served g c = λ job setting asks tells view fits.
    let ends = c.run.ensures.ends tells view fits in
    (search rules, search rules, search rules, search rules, search rules, search rules, search rules, search rules)

pub returns-in-Check-clause-counted : goal.returns-in-Check-clause-counted
returns-in-Check-clause-counted g c = λ job tells. check_as_asked c.args.words.now c.in-Some.call (sym c.in-Ok.ensures ∙ c.in-Some.is) c.as_str-store.result.now c.as_str-store.ensures
    c.check.result _ c.status-in-Check.ensures _
    (outside (g.S.Source.left c.args.source.now) (g.K.Sink.written c.args.sink.now) (g.P.Keeper.state c.args.keeper.now) c.args.steps.now)
    (outside (g.S.Source.left c.args.source.now) (g.K.Sink.written c.check.new.sink) (g.P.Keeper.state c.check.new.keeper) c.check.new.steps)
    (c.check.ensures.ends tells (g.S.Source.left c.args.source.now))

pub returns-in-Check-clause-damaged : goal.returns-in-Check-clause-damaged
returns-in-Check-clause-damaged g c = λ is tells. (
  refl,
  (check_as_asked c.args.words.now c.in-Some.call (sym c.in-Ok.ensures ∙ c.in-Some.is) c.as_str-store.result.now c.as_str-store.ensures
      c.check.result _ c.status-in-Check.ensures _
      (outside (g.S.Source.left c.args.source.now) (g.K.Sink.written c.args.sink.now) (g.P.Keeper.state c.args.keeper.now) c.args.steps.now)
      (outside (g.S.Source.left c.args.source.now) (g.K.Sink.written c.check.new.sink) (g.P.Keeper.state c.check.new.keeper) c.check.new.steps)
      (c.check.ensures.ends tells (g.S.Source.left c.args.source.now))).5 is,
)

pub returns-in-Check-clause-same : goal.returns-in-Check-clause-same
returns-in-Check-clause-same g c = λ job tells. idle_as_asked c.args.words.now c.in-Some.call (sym c.in-Ok.ensures ∙ c.in-Some.is) c.as_str-store.result.now c.as_str-store.ensures
    (g.P.Keeper.state c.args.keeper.now) (g.P.Keeper.state c.check.new.keeper) (c.check.ensures.idle tells)

pub returns-in-Check-clause-nothing : goal.returns-in-Check-clause-nothing
returns-in-Check-clause-nothing g c = λ is. (
  refl,
  c.check.ensures.unwritten (status-7 c.check.result (sym c.status-in-Check.ensures ∙ is)),
  λ tells. idle_as_asked c.args.words.now c.in-Some.call (sym c.in-Ok.ensures ∙ c.in-Some.is) c.as_str-store.result.now c.as_str-store.ensures
      (g.P.Keeper.state c.args.keeper.now) (g.P.Keeper.state c.check.new.keeper) (c.check.ensures.idle tells),
)

pub returns-clause-drilled : goal.returns-clause-drilled
returns-clause-drilled g c = λ size number job is.
    subst (λ (line : Txt). Appends (g.K.Sink.written c.args.sink.now) (g.K.Sink.written c.drill.new.sink) line)
    (summary_as_asked c.args.words.now c.in-Some.call (sym c.in-Ok.ensures ∙ c.in-Some.is) size number _ _ c.in-Drill.is job)
    (said_whole _ c.drill.result _ _ _ _ c.drill.ensures.says (sym c.status-in-Drill.ensures ∙ is))

pub returns-clause-drill_cut : goal.returns-clause-drill_cut
returns-clause-drill_cut g c = λ size number job is.
    subst (λ (line : Txt). AppendsFront (g.K.Sink.written c.args.sink.now) (g.K.Sink.written c.drill.new.sink) line)
    (summary_as_asked c.args.words.now c.in-Some.call (sym c.in-Ok.ensures ∙ c.in-Some.is) size number _ _ c.in-Drill.is job)
    (said_front _ c.drill.result _ _ _ _ c.drill.ensures.says (sym c.status-in-Drill.ensures ∙ is))

pub returns-in-Run-clause-damaged : goal.returns-in-Run-clause-damaged
returns-in-Run-clause-damaged g c = λ is tells.
    let ends = run_as_asked c.args.words.now c.in-Some.call (sym c.in-Ok.ensures ∙ c.in-Some.is) c.as_str-store.result.now c.as_str-store.ensures
    c.run.result _ c.status-in-Run.ensures _ _ _ _
    (outside (g.S.Source.left c.args.source.now) (g.K.Sink.written c.args.sink.now) (g.P.Keeper.state c.args.keeper.now) c.args.steps.now)
    (outside (g.S.Source.left c.run.new.source) (g.K.Sink.written c.run.new.sink) (g.P.Keeper.state c.run.new.keeper) c.run.new.steps)
    (c.run.ensures.ends tells exposed tt) in
    (c.run.ensures.damaged (status-6 c.run.result (sym c.status-in-Run.ensures ∙ is)) tells, ends.5 is)

pub returns-in-Run-clause-nothing : goal.returns-in-Run-clause-nothing
returns-in-Run-clause-nothing g c = λ is.
    let none = status-7 c.run.result (sym c.status-in-Run.ensures ∙ is) in
    let idle : (g.P.Keeper.state c.run.new.keeper).tells → IsIdle (store_of c.args.words.now) (g.P.Keeper.state c.args.keeper.now) (g.P.Keeper.state c.run.new.keeper) = λ tells.
    let ends = run_as_asked c.args.words.now c.in-Some.call (sym c.in-Ok.ensures ∙ c.in-Some.is) c.as_str-store.result.now c.as_str-store.ensures
    c.run.result _ c.status-in-Run.ensures _ _ _ _
    (outside (g.S.Source.left c.args.source.now) (g.K.Sink.written c.args.sink.now) (g.P.Keeper.state c.args.keeper.now) c.args.steps.now)
    (outside (g.S.Source.left c.run.new.source) (g.K.Sink.written c.run.new.sink) (g.P.Keeper.state c.run.new.keeper) c.run.new.steps)
    (c.run.ensures.ends tells exposed tt) in
    ends.6 is in
    (c.run.ensures.unread none, c.run.ensures.unwritten none, idle)

pub returns-in-Run-clause-tells : goal.returns-in-Run-clause-tells
returns-in-Run-clause-tells g c =
    tells_as_asked c.args.words.now c.in-Some.call (sym c.in-Ok.ensures ∙ c.in-Some.is) c.as_str-store.result.now c.as_str-store.ensures
    (g.P.Keeper.state c.args.keeper.now) (g.P.Keeper.state c.run.new.keeper) c.run.ensures.tells

pub returns-in-Check-clause-tells : goal.returns-in-Check-clause-tells
returns-in-Check-clause-tells g c =
    tells_as_asked c.args.words.now c.in-Some.call (sym c.in-Ok.ensures ∙ c.in-Some.is) c.as_str-store.result.now c.as_str-store.ensures
    (g.P.Keeper.state c.args.keeper.now) (g.P.Keeper.state c.check.new.keeper) c.check.ensures.tells

pub returns-clause-tells : goal.returns-clause-tells
returns-clause-tells g c = TellsOnceStarted-same (store_of c.args.words.now) (g.P.Keeper.state c.args.keeper.now) c.requires.ready

pub returns-in_default-asked-clause-tells : goal.returns-in_default-asked-clause-tells
returns-in_default-asked-clause-tells g c = TellsOnceStarted-same (store_of c.args.words.now) (g.P.Keeper.state c.args.keeper.now) c.requires.ready

pub returns-in_default-clause-tells : goal.returns-in_default-clause-tells
returns-in_default-clause-tells g c = TellsOnceStarted-same (store_of c.args.words.now) (g.P.Keeper.state c.args.keeper.now) c.requires.ready
