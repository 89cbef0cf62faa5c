-- None of the accesses before this one is by the asker.
use Rattle.std.proofs.Common.{◌≡◌, map, drop}
use Rattle.std.specs.List.{list_any}
use Rattle.hippo_history_page.specs.Counts.{have_one_asker}
use Rattle.hippo_history_page.proofs.counting.is_found.Given as goal

abbrev pub invariant-loop-one : goal.invariant-loop-one
invariant-loop-one l =
    list_any (have_one_asker l.access) (map (λ one. one.now) (drop l.one-index l.found))
    ≡ list_any (have_one_asker l.access) (map (λ one. one.now) l.found)
