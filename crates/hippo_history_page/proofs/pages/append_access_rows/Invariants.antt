-- The rows written so far and those that remain are all.
use Rattle.std.proofs.Common.{◌≡◌, ◌++◌, flat_map, drop}
use Rattle.hippo_history_page.specs.Pages.{access_row}
use Rattle.hippo_history_page.proofs.pages.append_access_rows.Given as goal

abbrev pub invariant-loop-access : goal.invariant-loop-access
invariant-loop-access l =
    l.out ++ flat_map access_row (drop l.access-index l.accesses) ≡ l.fn.out ++ flat_map access_row l.accesses
