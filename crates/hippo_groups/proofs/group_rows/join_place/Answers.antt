-- One more cell.
use Rattle.std.proofs.Common.{[], ◌∷◌, ◌++◌}
use Rattle.std.proofs.lemmas.Option.{slice_get_within, get_or_from_slice_get}
use Rattle.std.proofs.lemmas.Result.{on_ok_weaker}
use Rattle.hippo_model.specs.Forms.{group_cell}
use Rattle.hippo_groups.proofs.JoinLemmas.{now_at, then_set}
use Rattle.hippo_groups.proofs.group_rows.join_place.Goals as goal

pub returns : goal.returns
returns g c = λ key members so_far.
    let outs = c.args.outs.now in
    let out = c.get.result.now in
    let within = slice_get_within outs c.args.place out c.get.ensures in
    let is = get_or_from_slice_get outs c.args.place out out c.get.ensures in
    let before = group_cell key members in
    let after = group_cell key (members ++ g.R.LentRow.cells c.args.row.now ∷ []) in
    on_ok_weaker c.join_cell.result
    (λ new. then_set before after outs c.args.place out within is c.args.cells.now c.join_cell.new.cell so_far new)
    (c.join_cell.ensures key members (now_at before after outs c.args.place out within is c.args.cells.now c.index-cells-place.result so_far))
