-- All cells include one more member.
use Rattle.std.proofs.Common.{[], ◌∷◌, ◌++◌, arith}
use Rattle.hippo_model.specs.Forms.{group_cell}
use Rattle.hippo_groups.proofs.JoinLemmas.{all_changed}
use Rattle.hippo_groups.proofs.group_rows.join.Goals as goal

pub returns : goal.returns
returns g c = λ key members was.
    all_changed (group_cell key members) (group_cell key (members ++ g.R.LentRow.cells c.args.row.now ∷ [])) c.args.outs.now c.loop-place.place
    (omega (arith, c.len-place-end.ensures)) c.loop-place.cells (c.loop-place.invariant key members was)
