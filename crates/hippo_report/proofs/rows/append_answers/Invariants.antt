-- The text so far followed by the remaining rows is the whole, and begins with the old text.
use Rattle.std.proofs.Common.{◌≡◌, ◌++◌, flat_map, drop}
use Rattle.hippo_values_text.specs.Printing.{KeepsFront}
use Rattle.hippo_report.specs.Cells.{answer_line}
use Rattle.hippo_report.proofs.rows.append_answers.Given as goal

abbrev pub invariant-loop-row : goal.invariant-loop-row
invariant-loop-row g l =
    (l.out ++ flat_map (answer_line l.session) (drop l.row-index l.rows)
    ≡ l.initial.out ++ flat_map (answer_line l.session) l.rows)
    × KeepsFront l.initial.out l.out
