-- One more place.
use Rattle.std.proofs.Common.{◌∙◌, cond, List, [], ◌∷◌, ◌++◌, sym, ap}
use Rattle.std.specs.Prelude.{◌&&◌}
use Rattle.hippo_model.specs.Rows.{cell_at}
use Rattle.hippo_model.specs.Terms.{Place}
use Rattle.hippo_history_statements.specs.Telling.{is_set}
use Rattle.hippo_history_top.specs.CarryingOn.{is_filled_text}
use Rattle.hippo_history_top.proofs.CarryLoops.{filled_more}
use Rattle.hippo_history_top.proofs.births.filled_texts.Goals as goal

pub loop-place-preserved : goal.loop-place-preserved
loop-place-preserved c =
    c.in_ok-add_filled.ensures
    ∙ ap (λ (places : List Place). places ++ cond (is_set c.args.key.now c.loop-place.place && is_filled_text (cell_at c.args.row.now c.loop-place.place)) (c.loop-place.place ∷ []) []) c.loop-place.invariant
    ∙ sym (filled_more c.args.row.now c.args.key.now c.loop-place.place)
