-- Piece by piece, until the program ends.
use Rattle.std.proofs.Common.{◌<◌, ◌^◌, arith}
use Rattle.hippo_history_top.proofs.ReadingLemmas.{IsShowing-first, IsShowing-on, ShowsAll-end, showing_ready}
use Rattle.hippo_history_top.proofs.showing.show_all.Goals as goal

pub loop-ending-init : goal.loop-ending-init
loop-ending-init g c = IsShowing-first c.args.guide.now.catalog.now.names c.args.guide.now.excerpt.now (g.P.Keeper.state c.args.keeper.now) (g.P.Keeper.state c.args.keeper.now) (g.P.Keeper.state c.args.keeper.now)
    (g.K.Sink.written c.args.sink.now) (g.K.Sink.faults c.args.sink.now) c.args.steps.now c.requires.readable.ready

pub show_next-requires : goal.show_next-requires
show_next-requires g c = record {
  ready = showing_ready c.args.guide.now.catalog.now.names c.args.guide.now.excerpt.now (g.P.Keeper.state c.args.keeper.now) (g.P.Keeper.state c.loop-ending.keeper) c.loop-ending.progress.number c.loop-ending.progress.clock
      (g.K.Sink.written c.args.sink.now) (g.K.Sink.written c.loop-ending.sink) (g.K.Sink.faults c.args.sink.now) (g.K.Sink.faults c.loop-ending.sink) c.args.steps.now c.loop-ending.steps c.loop-ending.invariant;
}

pub loop-ending-preserved : goal.loop-ending-preserved
loop-ending-preserved g c =
    IsShowing-on c.args.guide.now.catalog.now.names c.args.guide.now.excerpt.now (g.P.Keeper.state c.args.keeper.now) (g.P.Keeper.state c.loop-ending.keeper) (g.P.Keeper.state c.show_next.new.keeper)
    c.loop-ending.progress.number c.show_next.new.progress.number c.loop-ending.progress.clock c.show_next.new.progress.clock
    (g.K.Sink.written c.args.sink.now) (g.K.Sink.written c.loop-ending.sink) (g.K.Sink.written c.show_next.new.sink) (g.K.Sink.faults c.args.sink.now) (g.K.Sink.faults c.loop-ending.sink) (g.K.Sink.faults c.show_next.new.sink)
    c.args.steps.now c.loop-ending.steps c.show_next.new.steps c.loop-ending.invariant c.requires.readable.order c.show_next.result c.show_next.ensures.shows c.in-None.is

pub returns-in-Some : goal.returns-in-Some
returns-in-Some g c = record {
  shows = ShowsAll-end c.args.guide.now.catalog.now.names c.args.guide.now.excerpt.now (g.P.Keeper.state c.args.keeper.now) (g.P.Keeper.state c.loop-ending.keeper) (g.P.Keeper.state c.show_next.new.keeper)
      c.loop-ending.progress.number c.show_next.new.progress.number c.loop-ending.progress.clock c.show_next.new.progress.clock
      (g.K.Sink.written c.args.sink.now) (g.K.Sink.written c.loop-ending.sink) (g.K.Sink.written c.show_next.new.sink) (g.K.Sink.faults c.args.sink.now) (g.K.Sink.faults c.loop-ending.sink) (g.K.Sink.faults c.show_next.new.sink)
      c.args.steps.now c.loop-ending.steps c.show_next.new.steps c.loop-ending.invariant c.requires.readable.order c.in-Some.ending (rw c.in-Some.is at c.show_next.ensures.shows);
}

pub loop-ending-smaller : goal.loop-ending-smaller
loop-ending-smaller g c =
    let more : c.loop-ending.progress.number < c.show_next.new.progress.number = (c.show_next.ensures.shows.more c.in-None.is).0 in
    let room : c.loop-ending.progress.number < 2 ^ 64 = (c.show_next.ensures.shows.more c.in-None.is).1 in
    omega (arith, more, room)
