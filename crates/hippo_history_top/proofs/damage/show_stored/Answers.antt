-- What was loaded from memory is shown; or the place alone is written, or nothing.
use Rattle.hippo_history_top.proofs.DamageLemmas.{loaded_readable, loaded_kept, loaded_stands, none_stored, ShowsCopied-then, ShowsCopied-none}
use Rattle.hippo_history_top.proofs.damage.show_stored.Goals as goal

pub show_view-ending-requires : goal.show_view-ending-requires
show_view-ending-requires g c = record { readable = loaded_readable c.args.keeper.now c.load.new.keeper c.args.steps.now c.load.new.steps c.in-Ok.state c.in-Ok.ensures.loads }

pub returns-in-Ok : goal.returns-in-Ok
returns-in-Ok g c = record {
  shows = ShowsCopied-then c.args.keeper.now.kept c.args.view.now c.args.place c.in-Ok.state _ _ c.show_view-ending.result c.then_place.result
      (g.K.Sink.written c.args.sink.now) (g.K.Sink.written c.show_view-ending.new.sink) (g.K.Sink.written c.then_place.new.sink)
      (g.K.Sink.faults c.args.sink.now) (g.K.Sink.faults c.show_view-ending.new.sink) (g.K.Sink.faults c.then_place.new.sink) c.load.new.steps c.show_view-ending.new.steps
      (loaded_stands c.args.keeper.now c.load.new.keeper c.args.steps.now c.load.new.steps c.in-Ok.state c.in-Ok.ensures.loads)
      (loaded_kept c.args.keeper.now c.load.new.keeper c.args.steps.now c.load.new.steps c.in-Ok.state c.in-Ok.ensures.loads)
      tt c.show_view-ending.ensures.shows c.then_place.ensures.says;
}

pub returns-in-Err-Damaged : goal.returns-in-Err-Damaged
returns-in-Err-Damaged g c = record {
  shows = ShowsCopied-none c.args.keeper.now.kept c.args.view.now c.args.place c.say_damaged.result
      (g.K.Sink.written c.args.sink.now) (g.K.Sink.written c.say_damaged.new.sink) (g.K.Sink.faults c.args.sink.now) (g.K.Sink.faults c.say_damaged.new.sink)
      (none_stored c.args.keeper.now c.load.new.keeper c.args.steps.now c.load.new.steps c.in-Err-Damaged.field-0-0 (rw c.in-Err-Damaged.field-0-is at c.in-Err-Damaged.ensures.loads)) c.say_damaged.ensures.says;
}
