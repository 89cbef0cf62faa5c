-- The rules that were written down are those of each history for which the book stands.
use Rattle.std.proofs.Common.{◌∙◌, ◌++◌, take, ap}
use Rattle.hippo_values.specs.Texts.{Txt}
use Rattle.hippo_model.specs.Terms.{History}
use Rattle.hippo_policy.specs.Books.{BookRepresents}
use Rattle.hippo_history_top.specs.Dating.{count_to, dated_line}
use Rattle.hippo_history_top.specs.Ruling.{rules_by_names}
use Rattle.hippo_history_top.proofs.PageLemmas.{page_written}
use Rattle.hippo_history_top.proofs.top.write_rules.Goals as goal

pub returns-in-Ok : goal.returns-in-Ok
returns-in-Ok g c =
    let text : History → Txt = λ history. rules_by_names c.args.state.now.catalog.names (dated_line c.args.page.now.format c.args.moments.now) c.args.page.now.scope (take (count_to c.args.page.now.last c.args.moments.now) history) in
    record {
      writes = page_written (BookRepresents c.args.state.now.book) text (g.K.Sink.written c.args.sink.now) (g.K.Sink.faults c.args.sink.now) (g.K.Sink.written c.write_lines.new.sink) (g.K.Sink.faults c.write_lines.new.sink)
          c.as_str.result.now (λ history stands. c.as_str.ensures ∙ c.in-Ok.ensures history stands ∙ ap (λ (t : Txt). t ++ text history) c.new-lines.ensures) c.write_lines.result c.write_lines.ensures.writes;
    }
