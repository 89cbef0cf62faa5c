-- The group at the place is changed.
use Rattle.std.proofs.Common.{[], ◌∷◌, ◌++◌, ◌∙◌}
use Rattle.hippo_audit_needs.specs.declared.group_marks.GroupMarks.{GroupMarks}
use Rattle.hippo_audit_needs.specs.GroupMarks.{PlacedRow, marks_of}
use Rattle.hippo_groups.proofs.JoinLemmas.{found_at, changed_at}
use Rattle.hippo_audit_needs.proofs.group_marks.join_at.Goals as goal

pub returns : goal.returns
returns c = λ front back members split at.
    let member : PlacedRow = record { row = c.args.row.now; places = c.args.places.now } in
    let before : GroupMarks = marks_of c.args.outs.now members in
    let found = c.replace-group.ensures.value ∙ found_at front back before c.args.groups.now c.args.place split at c.index-groups-place.result in
    changed_at front back before c.replace-group.new.dest (marks_of c.args.outs.now (members ++ member ∷ [])) c.args.groups.now c.args.place split at
    c.in_ok-groups.field-0 (c.in_ok-groups.ensures members found)
