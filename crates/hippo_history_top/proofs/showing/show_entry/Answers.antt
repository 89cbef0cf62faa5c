-- The entry is asked for and shown, or is not asked for, or memory ran out.
use Rattle.std.proofs.Common.{◌∙◌, sym}
use Rattle.hippo_history_top.proofs.EntryLemmas.{unasked, unwritten, asked}
use Rattle.hippo_history_top.proofs.showing.show_entry.Goals as goal

pub returns-in-Ok-true : goal.returns-in-Ok-true
returns-in-Ok-true g c = record {
  shows = asked c.args.guide.now.catalog.now.names c.args.guide.now.excerpt.now c.args.entry.now c.args.clock.now
      (g.K.Sink.written c.args.sink.now) (g.K.Sink.written c.write_entry-ending.new.sink) (g.K.Sink.faults c.args.sink.now) (g.K.Sink.faults c.write_entry-ending.new.sink)
      (sym c.in-Ok-true.field-0-test ∙ c.in-Ok-true.ensures) c.write_entry-ending.result c.write_entry-ending.ensures.writes;
}

pub returns-in-Ok-false : goal.returns-in-Ok-false
returns-in-Ok-false g c = record {
  shows = unasked c.args.guide.now.catalog.now.names c.args.guide.now.excerpt.now c.args.entry.now c.args.clock.now
      (g.K.Sink.written c.args.sink.now) (g.K.Sink.faults c.args.sink.now) (sym c.in-Ok-false.field-0-test ∙ c.in-Ok-false.ensures);
}

pub returns-in-Err : goal.returns-in-Err
returns-in-Err g c = record {
  shows = unwritten c.args.guide.now.catalog.now.names c.args.guide.now.excerpt.now c.args.entry.now c.args.clock.now
      (g.K.Sink.written c.args.sink.now) (g.K.Sink.faults c.args.sink.now);
}
