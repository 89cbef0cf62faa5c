-- The row at the place is changed.
use Rattle.std.proofs.Common.{[], ◌∷◌, ◌++◌, map, ◌∙◌}
use Rattle.hippo_model.specs.Terms.{ShownRow}
use Rattle.hippo_model.specs.Forms.{group_cell}
use Rattle.hippo_groups.proofs.JoinLemmas.{found_at, changed_at}
use Rattle.hippo_groups.proofs.group_rows.join_at.Goals as goal

pub returns : goal.returns
returns g c = λ front back key members split at.
    let before : ShownRow = map (group_cell key members) c.args.outs.now in
    let found = c.replace-cells.ensures.value ∙ found_at front back before c.args.rows.now c.args.place split at c.index-rows-place.result in
    changed_at front back before c.replace-cells.new.dest (map (group_cell key (members ++ g.R.LentRow.cells c.args.row.now ∷ [])) c.args.outs.now) c.args.rows.now c.args.place split at
    c.in_ok-rows.field-0 (c.in_ok-rows.ensures key members found)
