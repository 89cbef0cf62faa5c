-- One more best value.
use Rattle.std.proofs.Common.{[], ◌∷◌, ◌++◌}
use Rattle.std.proofs.lemmas.Option.{slice_get_within, get_or_from_slice_get}
use Rattle.std.proofs.lemmas.Result.{on_ok_weaker}
use Rattle.hippo_audit_needs.specs.GroupMarks.{PlacedRow, best_of}
use Rattle.hippo_groups.proofs.JoinLemmas.{now_at, then_set}
use Rattle.hippo_audit_needs.proofs.group_marks.join_place.Goals as goal

pub returns : goal.returns
returns c = λ members so_far.
    let outs = c.args.outs.now in
    let out = c.get.result.now in
    let within = slice_get_within outs c.args.place out c.get.ensures in
    let is = get_or_from_slice_get outs c.args.place out out c.get.ensures in
    let member : PlacedRow = record { row = c.args.row.now; places = c.args.places.now } in
    let before = best_of members in
    let after = best_of (members ++ member ∷ []) in
    on_ok_weaker c.join_best.result
    (λ new. then_set before after outs c.args.place out within is c.args.bests.now c.join_best.new.best so_far new)
    (c.join_best.ensures members (now_at before after outs c.args.place out within is c.args.bests.now c.index-bests-place.result so_far))
