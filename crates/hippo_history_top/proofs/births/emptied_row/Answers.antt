-- One more value.
use Rattle.std.proofs.Common.{◌∙◌, ℕ, ◌+◌, ◌-◌, List, [], ◌∷◌, ◌++◌, map, length, drop, sym, ap, append_assoc}
use Rattle.std.specs.List.{range_with_len, zip}
use Rattle.hippo_values.specs.declared.values.Value.{Value}
use Rattle.hippo_history_top.specs.CarryingOn.{emptied_cell}
use Rattle.hippo_history_top.proofs.CarryLoops.{row_at}
use Rattle.hippo_history_top.proofs.births.emptied_row.Goals as goal

pub loop-place-preserved : goal.loop-place-preserved
loop-place-preserved c =
    let row : List Value = c.args.row.now in
    let place : ℕ = c.loop-place.place in
    let empty : ℕ × Value → Value = λ (at, value). emptied_cell c.args.key.now at value in
    let rest : List Value = map empty (zip (range_with_len (place + 1) (length row - (place + 1))) (drop (place + 1) row)) in
    ap (λ (made : List Value). made ++ rest) (c.in_ok-push.ensures.ok ∙ ap (λ (value : Value). c.loop-place.made ++ value ∷ []) c.in_ok-emptied_cell.ensures)
    ∙ append_assoc c.loop-place.made (emptied_cell c.args.key.now place c.index-row-place.result ∷ []) rest
    ∙ ap (λ (values : List Value). c.loop-place.made ++ values) (sym (row_at empty row place c.loop-place-test.true c.index-row-place.result c.index-row-place.is))
    ∙ c.loop-place.invariant
