-- The rows written so far and those that remain are all.
use Rattle.std.proofs.Common.{◌≡◌, ◌++◌, map, flat_map, drop}
use Rattle.hippo_history_page.specs.Pages.{day_row}
use Rattle.hippo_history_page.proofs.pages.append_day_rows.Given as goal

abbrev pub invariant-loop-one : goal.invariant-loop-one
invariant-loop-one l =
    l.out ++ flat_map (day_row l.accesses) (map (λ one. (one.day, one.count)) (drop l.one-index l.counted))
    ≡ l.fn.out ++ flat_map (day_row l.accesses) (map (λ one. (one.day, one.count)) l.counted)
