-- The text so far and the remaining columns make up the whole.
use Rattle.std.proofs.Common.{◌≡◌, ◌++◌, flat_map, drop}
use Rattle.hippo_history_top.specs.CarryingOn.{set_line}
use Rattle.hippo_history_top.proofs.births.append_sets.Given as goal

abbrev pub invariant-loop-place : goal.invariant-loop-place
invariant-loop-place l =
    l.out ++ flat_map (set_line l.born.schema.now l.born.table.now l.born.row.now) (drop l.place-index l.places)
    ≡ l.initial.out ++ flat_map (set_line l.born.schema.now l.born.table.now l.born.row.now) l.places
