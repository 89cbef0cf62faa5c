-- Those found so far, and those that are still to be found, are all.
use Rattle.std.proofs.Common.{◌≡◌, ◌++◌, map, drop}
use Rattle.hippo_history_page.specs.Counts.{firsts_after, firsts}
use Rattle.hippo_history_page.proofs.counting.firsts.Given as goal

abbrev pub invariant-loop-access : goal.invariant-loop-access
invariant-loop-access l =
    map (λ one. one.now) l.found.items ++ firsts_after (map (λ one. one.now) l.found.items) (drop l.access-index l.accesses)
    ≡ firsts l.accesses
