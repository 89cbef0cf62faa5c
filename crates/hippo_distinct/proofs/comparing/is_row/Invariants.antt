-- The cells up to the place are those of the items.
use Rattle.std.proofs.Common.{◌≡◌, map, take}
use Rattle.hippo_model.specs.Masking.{masked_cell}
use Rattle.hippo_distinct.proofs.comparing.is_row.Given as goal

abbrev pub invariant-loop-place : goal.invariant-loop-place
invariant-loop-place g l = take l.place l.row ≡ map (masked_cell (g.C.ChoiceView.choices l.choices) l.combo) (take l.place l.items)
