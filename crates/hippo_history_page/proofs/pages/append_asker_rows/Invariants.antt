-- The rows written so far and those that remain are all.
use Rattle.std.proofs.Common.{◌≡◌, ◌++◌, map, flat_map, drop}
use Rattle.hippo_history_page.specs.Pages.{asker_row}
use Rattle.hippo_history_page.proofs.pages.append_asker_rows.Given as goal

abbrev pub invariant-loop-first : goal.invariant-loop-first
invariant-loop-first l =
    l.out ++ flat_map (asker_row l.accesses) (map (λ one. one.now) (drop l.first-index l.firsts))
    ≡ l.fn.out ++ flat_map (asker_row l.accesses) (map (λ one. one.now) l.firsts)
