-- The text so far and the lines of the remaining entries make up the whole.
use Rattle.std.proofs.Common.{◌≡◌, ◌++◌, ◌-◌, length, reverse, take, None}
use Rattle.hippo_history_top.specs.CarryingOn.{entries_carried}
use Rattle.hippo_history_top.proofs.carrying.append_backwards.Given as goal

abbrev pub invariant-loop-place : goal.invariant-loop-place
invariant-loop-place l =
    l.out ++ entries_carried l.catalog.names l.clock (reverse (take (length l.entries - l.place) l.entries))
    ≡ l.initial.out ++ entries_carried l.catalog.names None (reverse l.entries)
