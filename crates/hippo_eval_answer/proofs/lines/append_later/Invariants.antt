-- The text so far and the cells of the remaining items give the whole.
use Rattle.std.proofs.Common.{◌≡◌, ◌++◌, flat_map, drop}
use Rattle.hippo_model.specs.Masking.{masked_cell}
use Rattle.hippo_report.specs.Cells.{cell_text, comma}
use Rattle.hippo_eval_answer.proofs.lines.append_later.Given as goal

abbrev pub invariant-loop-item : goal.invariant-loop-item
invariant-loop-item g l =
    l.out ++ flat_map (λ item. comma ++ cell_text (masked_cell (g.C.ChoiceView.choices l.choices) l.combo item)) (drop l.item-index l.items)
    ≡ l.initial.out ++ flat_map (λ item. comma ++ cell_text (masked_cell (g.C.ChoiceView.choices l.choices) l.combo item)) l.items
