-- The lines of the INSERT, then those that set the texts.
use Rattle.std.proofs.Common.{◌∙◌, List, ◌++◌, ap, append_assoc}
use Rattle.std.specs.List.{flat_map}
use Rattle.hippo_values.specs.Texts.{Txt}
use Rattle.hippo_model.specs.Terms.{Place}
use Rattle.hippo_history_top.specs.CarryingOn.{emptied_row, filled_texts, insert_line, set_line}
use Rattle.hippo_history_top.proofs.births.append_parted.Goals as goal

pub returns : goal.returns
returns c =
    let told : Place → Txt = set_line c.args.born.now.schema.now c.args.born.now.table.now c.args.born.now.row.now in
    let insert : Txt = insert_line c.args.born.now.table.now (emptied_row c.args.born.now.schema.now.key c.args.born.now.row.now) in
    c.in_ok-append_sets.ensures
    ∙ ap (λ (text : Txt). text ++ flat_map told c.as_slice.result.now) c.in_ok-append_emptied.ensures
    ∙ append_assoc c.args.out.now insert (flat_map told c.as_slice.result.now)
    ∙ ap (λ (places : List Place). c.args.out.now ++ (insert ++ flat_map told places)) (c.as_slice.ensures ∙ c.in_ok-places.ensures)
