-- The least or the greatest after one more value.
use Rattle.std.proofs.Common.{[], ◌∷◌, ◌++◌, sym, ap, ◌∙◌}
use Rattle.std.proofs.lemmas.Result.{on_ok_weaker}
use Rattle.hippo_values.specs.declared.values.Value.{Value}
use Rattle.hippo_model.specs.declared.cells.Cell.TheVariants.{Shown}
use Rattle.hippo_model.specs.Forms.{lesser, greater, least_value, greatest_value, values_in, group_cell}
use Rattle.hippo_groups.proofs.BestLemmas.{least_cell, greatest_cell}
use Rattle.hippo_groups.proofs.group_rows.join_cell.Goals as goal

pub returns-in-Min : goal.returns-in-Min
returns-in-Min g c = λ key members was.
    on_ok_weaker c.lower.result
    (λ is. is ∙ ap (λ (value : Value). Shown (lesser (least_value (values_in c.in-Min.place members)) value)) c.value_of.ensures ∙ least_cell key members (g.R.LentRow.cells c.args.row.now) c.in-Min.place ∙ ap (group_cell key (members ++ g.R.LentRow.cells c.args.row.now ∷ [])) (sym c.in-Min.is))
    (c.lower.ensures (least_value (values_in c.in-Min.place members)) (was ∙ ap (group_cell key members) c.in-Min.is))

pub returns-in-Max : goal.returns-in-Max
returns-in-Max g c = λ key members was.
    on_ok_weaker c.raise.result
    (λ is. is ∙ ap (λ (value : Value). Shown (greater (greatest_value (values_in c.in-Max.place members)) value)) c.value_of-in-Max.ensures ∙ greatest_cell key members (g.R.LentRow.cells c.args.row.now) c.in-Max.place ∙ ap (group_cell key (members ++ g.R.LentRow.cells c.args.row.now ∷ [])) (sym c.in-Max.is))
    (c.raise.ensures (greatest_value (values_in c.in-Max.place members)) (was ∙ ap (group_cell key members) c.in-Max.is))
