-- The values so far, followed by those that the remaining ones become.
use Rattle.std.proofs.Common.{◌≡◌, ◌++◌, ◌-◌, map, length, drop}
use Rattle.std.specs.List.{range_with_len, zip}
use Rattle.hippo_history_top.specs.CarryingOn.{emptied_cell, emptied_row}
use Rattle.hippo_history_top.proofs.births.emptied_row.Given as goal

abbrev pub invariant-loop-place : goal.invariant-loop-place
invariant-loop-place l =
    l.made ++ map (λ (place, value). emptied_cell l.key place value) (zip (range_with_len l.place (length l.row - l.place)) (drop l.place l.row))
    ≡ emptied_row l.key l.row
