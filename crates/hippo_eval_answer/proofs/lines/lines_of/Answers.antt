-- The text is empty before the lines.
use Rattle.std.proofs.Common.{◌++◌, flat_map, refl, ap, ◌∙◌}
use Rattle.hippo_values.specs.Texts.{Txt}
use Rattle.hippo_report.specs.Cells.{answer_line}
use Rattle.hippo_eval_answer.proofs.lines.lines_of.Goals as goal

pub returns : goal.returns
returns c = record {
  text = c.in_ok-append_lines.ensures ∙ ap (λ (front : Txt). front ++ flat_map (answer_line c.args.session) c.args.rows.now) (c.in_ok-lines.ensures c.args.session).text;
  count = refl;
}
