-- All best values include one more member.
use Rattle.std.proofs.Common.{[], ◌∷◌, ◌++◌, arith}
use Rattle.hippo_audit_needs.specs.GroupMarks.{PlacedRow, best_of}
use Rattle.hippo_groups.proofs.JoinLemmas.{all_changed}
use Rattle.hippo_audit_needs.proofs.group_marks.join.Goals as goal

pub returns : goal.returns
returns c = λ members was.
    let member : PlacedRow = record { row = c.args.row.now; places = c.args.places.now } in
    all_changed (best_of members) (best_of (members ++ member ∷ [])) c.args.outs.now c.loop-place.place
    (omega (arith, c.len-place-end.ensures)) c.loop-place.bests (c.loop-place.invariant members was)
