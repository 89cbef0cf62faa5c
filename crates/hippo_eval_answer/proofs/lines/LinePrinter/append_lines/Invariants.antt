-- The text so far and the lines of the remaining rows give the whole.
use Rattle.std.proofs.Common.{◌≡◌, ◌++◌, flat_map, drop}
use Rattle.hippo_report.specs.Cells.{answer_line}
use Rattle.hippo_eval_answer.proofs.lines.LinePrinter.append_lines.Given as goal

abbrev pub invariant-loop-row : goal.invariant-loop-row
invariant-loop-row g l =
    l.out ++ flat_map (answer_line l.self.session) (drop l.row-index l.rows) ≡ l.initial.out ++ flat_map (answer_line l.self.session) l.rows
