-- The entries so far are shown.
use Rattle.std.proofs.Common.{◌≡◌, take, None}
use Rattle.hippo_keeper.specs.Keeping.{last_number}
use Rattle.hippo_history_top.specs.Progress.{ShowsKept}
use Rattle.hippo_history_top.proofs.showing.show_piece.Given as goal

abbrev pub invariant-loop-kept : goal.invariant-loop-kept
invariant-loop-kept g l = record {
  shows : ShowsKept l.guide.catalog.now.names l.guide.excerpt.now (take l.kept-index l.piece) None l.initial.progress.clock l.progress.clock
      (g.K.Sink.written l.initial.sink) (g.K.Sink.written l.sink) (g.K.Sink.faults l.initial.sink) (g.K.Sink.faults l.sink);
  last : l.progress.number ≡ last_number l.initial.progress.number (take l.kept-index l.piece);
}
