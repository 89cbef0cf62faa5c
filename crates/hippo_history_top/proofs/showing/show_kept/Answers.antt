-- The entry that has the form is shown; or none has it, and that is reported; or memory ran out.
use Rattle.std.proofs.Common.{[], ◌∷◌}
use Rattle.hippo_program_args.specs.Lines.{damaged_line}
use Rattle.hippo_history_top.proofs.EntryLemmas.{of_entry, of_none}
use Rattle.hippo_history_top.proofs.KeptLemmas.{ShowsKept-unread}
use Rattle.hippo_history_top.proofs.showing.show_kept.Goals as goal

pub returns-in-Ok-Some : goal.returns-in-Ok-Some
returns-in-Ok-Some g c = record {
  shows = of_entry c.args.guide.now.catalog.now.names c.args.guide.now.excerpt.now c.args.kept.now c.args.clock.now c.show_entry-ending.new.clock
      (g.K.Sink.written c.args.sink.now) (g.K.Sink.written c.show_entry-ending.new.sink) (g.K.Sink.faults c.args.sink.now) (g.K.Sink.faults c.show_entry-ending.new.sink)
      c.in-Ok-Some.entry c.show_entry-ending.result (rw c.in-Ok-Some.field-0-is at c.in-Ok-Some.ensures.found) c.show_entry-ending.ensures.shows;
}

pub returns-in-Ok-None : goal.returns-in-Ok-None
returns-in-Ok-None g c = record {
  shows = of_none c.args.guide.now.catalog.now.names c.args.guide.now.excerpt.now c.args.kept.now c.args.clock.now c.args.clock.now
      (g.K.Sink.written c.args.sink.now) (g.K.Sink.written c.say_damaged.new.sink) (g.K.Sink.faults c.args.sink.now) (g.K.Sink.faults c.say_damaged.new.sink)
      c.say_damaged.result (damaged_line c.args.kept.now.seq) (rw c.in-Ok-None.field-0-is at c.in-Ok-None.ensures.found) c.say_damaged.ensures.says;
}

pub returns-in-Err : goal.returns-in-Err
returns-in-Err g c = record {
  shows = ShowsKept-unread c.args.guide.now.catalog.now.names c.args.guide.now.excerpt.now (c.args.kept.now ∷ []) c.args.clock.now (g.K.Sink.written c.args.sink.now) (g.K.Sink.faults c.args.sink.now);
}
