-- What was loaded is served, or the reason why it was not loaded is reported.
use Rattle.std.proofs.Common.{◌∙◌, ap, arith, refl}
use Rattle.hippo_values.specs.declared.moments.Moment.{Moment}
use Rattle.hippo_engine_sessions.specs.Worlds.{opening}
use Rattle.hippo_io.specs.Inputs.{exposed, left_in}
use Rattle.hippo_engine.proofs.CarryingLemmas.{Holds-opening}
use Rattle.hippo_keeper.proofs.TellingLemmas.{TellsOnceStarted-opened, TellsOnceStarted-then}
use Rattle.hippo_program_args.specs.declared.endings.Ending.TheVariants.{NoMemory}
use Rattle.hippo_program_args.specs.Endings.{status_of}
use Rattle.hippo_serve_jobs.specs.Outside.{outside}
use Rattle.hippo_serve_jobs.proofs.OutcomeLemmas.{backed, run_ends, never_damaged, stop_ends_run}
use Rattle.hippo_serve_jobs.proofs.StatusLemmas.{status-other}
use Rattle.hippo_serve_jobs.proofs.TakenLemmas.{none_taken}
use Rattle.hippo_serve_jobs.proofs.TurnLemmas.{AtWork-begun}
use Rattle.hippo_serve_jobs.proofs.running.run.Goals as goal

pub serve_all-ending-requires-clause-at_work : goal.serve_all-ending-requires-clause-at_work
serve_all-ending-requires-clause-at_work g c =
    AtWork-begun c.in-Ok.state c.in-Ok-begin.serving.engine (g.P.Keeper.state c.load.new.keeper) c.args.setting.limit c.args.setting.format c.in-Ok-begin.ensures.state c.in-Ok-begin.ensures.world
    (backed c.args.store.now c.in-Ok.state (g.S.Source.left c.args.source.now) (g.K.Sink.written c.args.sink.now) (g.P.Keeper.state c.args.keeper.now) (g.P.Keeper.state c.load.new.keeper)
    c.args.steps.now c.load.new.steps c.in-Ok.ensures.loads)

pub returns-in-Ok-begin-clause-ends : goal.returns-in-Ok-begin-clause-ends
returns-in-Ok-begin-clause-ends g c = λ tells view fits.
    run_ends c.args.store.now c.in-Ok.state (left_in view (g.S.Source.left c.args.source.now) (g.S.Source.reads c.args.source.now)) (g.K.Sink.written c.args.sink.now) (g.P.Keeper.state c.args.keeper.now) (g.P.Keeper.state c.load.new.keeper)
    c.args.steps.now c.load.new.steps c.in-Ok.ensures.loads c.args.setting c.args.job.now c.serve_all-ending.result _ _
    (outside (left_in view (g.S.Source.left c.serve_all-ending.new.source) (g.S.Source.reads c.serve_all-ending.new.source)) (g.K.Sink.written c.serve_all-ending.new.sink) (g.P.Keeper.state c.serve_all-ending.new.keeper) c.serve_all-ending.new.steps)
    c.serve_all-ending.ensures.status.0 (λ is. absurd (c.serve_all-ending.ensures.status.1 is)) c.serve_all-ending.ensures.call.told
    (λ some tells history stands keeps counted. c.serve_all-ending.ensures.ends tells view fits c.args.setting history
    (Holds-opening history c.in-Ok.state c.in-Ok-begin.serving.engine (g.P.Keeper.state c.load.new.keeper) c.in-Ok.state.last c.args.setting.limit c.args.setting.format c.in-Ok-begin.ensures.state stands keeps.kept.forms c.in-Ok-begin.ensures.world)
    (c.in-Ok-begin.ensures.world ∙ ap (λ (moment : Moment). opening moment c.args.setting.limit c.args.setting.format) stands.last) keeps c.args.steps.now counted) tells

pub returns-in-Ok-begin-clause-damaged : goal.returns-in-Ok-begin-clause-damaged
returns-in-Ok-begin-clause-damaged g c = λ is tells. absurd (
    never_damaged c.args.store.now c.in-Ok.state (g.S.Source.left c.args.source.now) (g.K.Sink.written c.args.sink.now) (g.P.Keeper.state c.args.keeper.now) (g.P.Keeper.state c.load.new.keeper)
    c.args.steps.now c.load.new.steps c.in-Ok.ensures.loads c.args.setting c.args.job.now c.serve_all-ending.result
    (outside (g.S.Source.left c.serve_all-ending.new.source) (g.K.Sink.written c.serve_all-ending.new.sink) (g.P.Keeper.state c.serve_all-ending.new.keeper) c.serve_all-ending.new.steps)
    c.serve_all-ending.ensures.call.told
    (λ some tells history stands keeps counted. c.serve_all-ending.ensures.ends tells exposed tt c.args.setting history
    (Holds-opening history c.in-Ok.state c.in-Ok-begin.serving.engine (g.P.Keeper.state c.load.new.keeper) c.in-Ok.state.last c.args.setting.limit c.args.setting.format c.in-Ok-begin.ensures.state stands keeps.kept.forms c.in-Ok-begin.ensures.world)
    (c.in-Ok-begin.ensures.world ∙ ap (λ (moment : Moment). opening moment c.args.setting.limit c.args.setting.format) stands.last) keeps c.args.steps.now counted) is tells)

pub returns-in-Err-begin-clause-ends : goal.returns-in-Err-begin-clause-ends
returns-in-Err-begin-clause-ends g c = λ tells view fits started. c.in-Ok.ensures.loads.found started tells

pub returns-in-Err-begin-clause-read : goal.returns-in-Err-begin-clause-read
returns-in-Err-begin-clause-read g c = λ view fits input is. none_taken (status_of NoMemory) input (left_in view (g.S.Source.left c.args.source.now) (g.S.Source.reads c.args.source.now)) is (λ e. omega (arith, e)) (λ e. omega (arith, e))

pub returns-in-Err-clause-ends : goal.returns-in-Err-clause-ends
returns-in-Err-clause-ends g c = λ tells view fits.
    stop_ends_run c.args.store.now
    (outside (left_in view (g.S.Source.left c.args.source.now) (g.S.Source.reads c.args.source.now)) (g.K.Sink.written c.args.sink.now) (g.P.Keeper.state c.args.keeper.now) c.args.steps.now)
    (outside (left_in view (g.S.Source.left c.args.source.now) (g.S.Source.reads c.args.source.now)) (g.K.Sink.written c.stop.new.sink) (g.P.Keeper.state c.load.new.keeper) c.load.new.steps)
    c.in-Err.fault c.stop.result _ (g.K.Sink.faults c.args.sink.now) (g.K.Sink.faults c.stop.new.sink) c.stop.ensures.stops c.in-Err.ensures.loads c.args.setting c.args.job.now _ refl tells

pub returns-in-Err-clause-read : goal.returns-in-Err-clause-read
returns-in-Err-clause-read g c = λ view fits input is.
    let other = status-other c.stop.result c.stop.ensures.status.0 c.stop.ensures.status.3 in
    none_taken (status_of c.stop.result) input (left_in view (g.S.Source.left c.args.source.now) (g.S.Source.reads c.args.source.now)) is other.0 other.1

pub returns-in-Ok-begin-clause-tells : goal.returns-in-Ok-begin-clause-tells
returns-in-Ok-begin-clause-tells g c =
    TellsOnceStarted-then c.args.store.now (g.P.Keeper.state c.args.keeper.now) (g.P.Keeper.state c.load.new.keeper) (g.P.Keeper.state c.serve_all-ending.new.keeper) (c.in-Ok.ensures.loads.started refl) c.in-Ok.ensures.loads.opened c.serve_all-ending.ensures.call.telling

pub returns-in-Err-begin-clause-tells : goal.returns-in-Err-begin-clause-tells
returns-in-Err-begin-clause-tells g c =
    TellsOnceStarted-opened c.args.store.now (g.P.Keeper.state c.args.keeper.now) (g.P.Keeper.state c.load.new.keeper) c.in-Ok.ensures.loads.opened c.in-Ok.ensures.loads.call.telling.has_to

pub returns-in-Err-clause-tells : goal.returns-in-Err-clause-tells
returns-in-Err-clause-tells g c =
    TellsOnceStarted-opened c.args.store.now (g.P.Keeper.state c.args.keeper.now) (g.P.Keeper.state c.load.new.keeper) c.in-Err.ensures.loads.opened c.in-Err.ensures.loads.call.telling.has_to
