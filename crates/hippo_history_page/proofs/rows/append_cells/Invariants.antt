-- The cells written so far and those that remain are all.
use Rattle.std.proofs.Common.{◌≡◌, ◌++◌, map, drop}
use Rattle.hippo_history_page.specs.Pages.{text_cells}
use Rattle.hippo_history_page.proofs.rows.append_cells.Given as goal

abbrev pub invariant-loop-text : goal.invariant-loop-text
invariant-loop-text l =
    l.out ++ text_cells (map (λ text. text.now) (drop l.text-index l.texts)) ≡ l.fn.out ++ text_cells (map (λ text. text.now) l.texts)
