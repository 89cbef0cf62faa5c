use Rattle.hippo_keeper.proofs.TellingLemmas.{TellsOnceStarted-opened}
use Rattle.hippo_serve_jobs.specs.Outside.{outside}
use Rattle.hippo_serve_jobs.proofs.OutcomeLemmas.{stop_ends_check}
use Rattle.hippo_serve_jobs.proofs.running.check.Goals as goal

pub returns-in-Err-clause-ends : goal.returns-in-Err-clause-ends
returns-in-Err-clause-ends g c = λ tells left.
    stop_ends_check c.args.store.now
    (outside left (g.K.Sink.written c.args.sink.now) (g.P.Keeper.state c.args.keeper.now) c.args.steps.now)
    (outside left (g.K.Sink.written c.stop.new.sink) (g.P.Keeper.state c.load.new.keeper) c.load.new.steps)
    c.in-Err.fault c.stop.result _ (g.K.Sink.faults c.args.sink.now) (g.K.Sink.faults c.stop.new.sink) c.stop.ensures.stops c.in-Err.ensures.loads tells

pub returns-in-Ok-clause-tells : goal.returns-in-Ok-clause-tells
returns-in-Ok-clause-tells g c =
    TellsOnceStarted-opened c.args.store.now (g.P.Keeper.state c.args.keeper.now) (g.P.Keeper.state c.load.new.keeper) c.in-Ok.ensures.loads.opened c.in-Ok.ensures.loads.call.telling.has_to

pub returns-in-Err-clause-tells : goal.returns-in-Err-clause-tells
returns-in-Err-clause-tells g c =
    TellsOnceStarted-opened c.args.store.now (g.P.Keeper.state c.args.keeper.now) (g.P.Keeper.state c.load.new.keeper) c.in-Err.ensures.loads.opened c.in-Err.ensures.loads.call.telling.has_to
