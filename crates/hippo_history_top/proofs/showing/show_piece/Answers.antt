-- One entry after another, up to one that ends the program.
use Rattle.std.proofs.Common.{◌≡◌, subst, refl, None, take}
use Rattle.std.proofs.lemmas.List.{take_all}
use Rattle.hippo_keeper.specs.Keeping.{Store, last_number}
use Rattle.hippo_history_top.specs.Progress.{ShowsKept}
use Rattle.hippo_history_top.proofs.KeptLemmas.{ShowsKept-none, piece_on, piece_over, last_there}
use Rattle.hippo_history_top.proofs.showing.show_piece.Goals as goal

pub loop-kept-init : goal.loop-kept-init
loop-kept-init g c = record {
  shows = ShowsKept-none c.args.guide.now.catalog.now.names c.args.guide.now.excerpt.now c.args.progress.now.clock (g.K.Sink.written c.args.sink.now) (g.K.Sink.faults c.args.sink.now);
  last = refl;
}

pub loop-kept-preserved : goal.loop-kept-preserved
loop-kept-preserved g c = record {
  shows = piece_on c.args.guide.now.catalog.now.names c.args.guide.now.excerpt.now c.args.piece.now c.loop-kept.kept-index c.kept-item.result c.args.progress.now.clock c.loop-kept.progress.clock c.show_kept.new.clock
      (g.K.Sink.written c.args.sink.now) (g.K.Sink.written c.loop-kept.sink) (g.K.Sink.written c.show_kept.new.sink) (g.K.Sink.faults c.args.sink.now) (g.K.Sink.faults c.loop-kept.sink) (g.K.Sink.faults c.show_kept.new.sink)
      c.loop-kept-test.true c.kept-item.is c.loop-kept.invariant.shows (rw c.in-None.is at c.show_kept.ensures.shows);
  last = last_there c.args.progress.now.number c.args.piece.now c.loop-kept.kept-index c.kept-item.result c.loop-kept-test.true c.kept-item.is;
}

pub returns-in-Some : goal.returns-in-Some
returns-in-Some g c = record {
  shows = piece_over c.args.guide.now.catalog.now.names c.args.guide.now.excerpt.now c.args.piece.now c.loop-kept.kept-index c.kept-item.result c.in-Some.ending c.args.progress.now.clock c.loop-kept.progress.clock c.show_kept.new.clock
      (g.K.Sink.written c.args.sink.now) (g.K.Sink.written c.loop-kept.sink) (g.K.Sink.written c.show_kept.new.sink) (g.K.Sink.faults c.args.sink.now) (g.K.Sink.faults c.loop-kept.sink) (g.K.Sink.faults c.show_kept.new.sink)
      c.loop-kept-test.true c.kept-item.is c.loop-kept.invariant.shows (rw c.in-Some.is at c.show_kept.ensures.shows);
  last = λ on. absurd cc;
}

pub returns : goal.returns
returns g c =
    let whole : take c.loop-kept.kept-index c.args.piece.now ≡ c.args.piece.now = take_all c.loop-kept.kept-index c.args.piece.now c.loop-kept-test.false in
    record {
      shows = subst (λ (s : Store). ShowsKept c.args.guide.now.catalog.now.names c.args.guide.now.excerpt.now s None c.args.progress.now.clock c.loop-kept.progress.clock
          (g.K.Sink.written c.args.sink.now) (g.K.Sink.written c.loop-kept.sink) (g.K.Sink.faults c.args.sink.now) (g.K.Sink.faults c.loop-kept.sink)) whole c.loop-kept.invariant.shows;
      last = λ on. subst (λ (s : Store). c.loop-kept.progress.number ≡ last_number c.args.progress.now.number s) whole c.loop-kept.invariant.last;
    }
