-- The lines that were written down are those of each history for which the tables stand.
use Rattle.std.proofs.Common.{◌∙◌, ◌++◌, None, ap}
use Rattle.hippo_values.specs.Texts.{Txt}
use Rattle.hippo_model.specs.Terms.{History}
use Rattle.hippo_tables.specs.Standing.{TablesStandFor}
use Rattle.hippo_history_carry.specs.Carrying.{entries_left}
use Rattle.hippo_history_top.specs.CarryingOn.{entries_carried}
use Rattle.hippo_history_top.proofs.PageLemmas.{page_written}
use Rattle.hippo_history_top.proofs.carrying.write_carried.Goals as goal

pub returns-in-Ok : goal.returns-in-Ok
returns-in-Ok g c =
    let text : History → Txt = λ history. entries_carried c.args.state.now.catalog.names None (entries_left history c.args.entries.now) in
    record {
      writes = page_written (TablesStandFor c.args.state.now.tables) text (g.K.Sink.written c.args.sink.now) (g.K.Sink.faults c.args.sink.now) (g.K.Sink.written c.write_lines.new.sink) (g.K.Sink.faults c.write_lines.new.sink)
          c.as_str.result.now (λ history stands. c.as_str.ensures ∙ c.in-Ok.ensures history stands ∙ ap (λ (t : Txt). t ++ text history) c.new-lines.ensures) c.write_lines.result c.write_lines.ensures.writes;
    }
