-- The cells so far are those of the items up to the index.
use Rattle.std.proofs.Common.{◌≡◌, map, take}
use Rattle.hippo_model.specs.Masking.{masked_cell}
use Rattle.hippo_eval.proofs.queries.refill.Given as goal

abbrev pub invariant-loop-item : goal.invariant-loop-item
invariant-loop-item g l = l.row ≡ map (masked_cell (g.C.ChoiceView.choices l.choices) l.combo) (take l.item-index l.items)
