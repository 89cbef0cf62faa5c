-- The days made so far and those that remain are all.
use Rattle.std.proofs.Common.{◌≡◌, ◌≤◌, ◌++◌, map, drop}
use Rattle.hippo_history_page.specs.Counts.{days_from}
use Rattle.hippo_history_page.proofs.counting.days_from.Given as goal

abbrev pub invariant-loop-access : goal.invariant-loop-access
invariant-loop-access l =
    (l.count ≤ l.access-index)
    × (map (λ one. (one.day, one.count)) l.made ++ days_from l.day l.count (drop l.access-index l.accesses)
    ≡ days_from l.fn.first 0 l.accesses)
