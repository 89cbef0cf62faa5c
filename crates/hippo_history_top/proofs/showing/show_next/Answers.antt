-- Nothing remained, or a piece was shown, or a call on the keeper failed.
use Rattle.std.proofs.Common.{arith, ap, not}
use Rattle.hippo_replay.proofs.ReadingLemmas.{none_by, some_by}
use Rattle.hippo_history_top.proofs.ReadingLemmas.{ShowsNext-end, ShowsNext-piece, ShowsNext-fault}
use Rattle.hippo_history_top.proofs.showing.show_next.Goals as goal

pub returns-then-is_empty : goal.returns-then-is_empty
returns-then-is_empty g c = record {
  shows = ShowsNext-end c.args.guide.now.catalog.now.names c.args.guide.now.excerpt.now 1000 c.args.progress.now.number (g.P.Keeper.state c.args.keeper.now) (g.P.Keeper.state c.read_all.new.self)
      c.in-Ok.piece c.args.steps.now c.read_all.new.steps c.in-Ok.ensures.reads c.in-Ok.ensures.steps
      c.args.progress.now.clock (g.K.Sink.written c.args.sink.now) (g.K.Sink.faults c.args.sink.now) (omega arith) (none_by c.is_empty.result c.in-Ok.piece c.is_empty.ensures (ap not c.if-is_empty.true));
}

pub returns-else-is_empty : goal.returns-else-is_empty
returns-else-is_empty g c = record {
  shows = ShowsNext-piece c.args.guide.now.catalog.now.names c.args.guide.now.excerpt.now 1000 c.args.progress.now.number (g.P.Keeper.state c.args.keeper.now) (g.P.Keeper.state c.read_all.new.self)
      c.in-Ok.piece c.args.steps.now c.read_all.new.steps c.in-Ok.ensures.reads c.in-Ok.ensures.steps
      c.show_piece-ending.result c.show_piece-ending.new.progress.number c.args.progress.now.clock c.show_piece-ending.new.progress.clock
      (g.K.Sink.written c.args.sink.now) (g.K.Sink.written c.show_piece-ending.new.sink) (g.K.Sink.faults c.args.sink.now) (g.K.Sink.faults c.show_piece-ending.new.sink)
      (omega arith) (some_by c.is_empty.result c.in-Ok.piece c.is_empty.ensures (ap not c.if-is_empty.false)) (rw c.as_slice.ensures at c.show_piece-ending.ensures.shows) (rw c.as_slice.ensures at c.show_piece-ending.ensures.last);
}

pub returns-in-Err : goal.returns-in-Err
returns-in-Err g c = rw c.ending_of.ensures (record {
  shows = ShowsNext-fault c.args.guide.now.catalog.now.names c.args.guide.now.excerpt.now 1000 c.args.progress.now.number (g.P.Keeper.state c.args.keeper.now) (g.P.Keeper.state c.read_all.new.self)
      c.args.steps.now c.read_all.new.steps c.in-Err.fault c.args.progress.now.clock (g.K.Sink.written c.args.sink.now) (g.K.Sink.faults c.args.sink.now)
      c.in-Err.ensures.reads c.in-Err.ensures.steps;
})
