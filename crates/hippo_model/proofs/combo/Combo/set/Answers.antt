-- The list has the new row at the index, and so does the combination.
use Rattle.std.proofs.Common.{ap, ◌∙◌, slice_set}
use Rattle.std.proofs.lemmas.List.{map-set}
use Rattle.hippo_model.specs.Terms.{Combination}
use Rattle.hippo_model.specs.declared.born_row.BornRow.{BornRow}
use Rattle.hippo_model.specs.declared.combo.LentRow.{LentRow}
use Rattle.hippo_model.proofs.combo.Combo.set.Goals as goal

pub returns : goal.returns
returns c =
    let lent : LentRow → BornRow = λ member. record { row = member.row.now; born = member.born } in
    map-set lent c.self.inside.rows.items c.args.place (record { row = c.args.row; born = c.args.born })
    ∙ ap (λ (rows : Combination). slice_set rows c.args.place (record { row = c.args.row.now; born = c.args.born })) c.self.view_is
