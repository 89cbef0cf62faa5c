-- The row belongs to a group that exists, or to a new one.
use Rattle.std.proofs.Common.{[], ◌∷◌, ◌++◌, sym, ap, ◌∙◌, arith}
use Rattle.std.specs.Prelude.{position, is_some}
use Rattle.std.specs.List.{list_any}
use Rattle.std.proofs.lemmas.List.{with_items_is}
use Rattle.std.proofs.lemmas.Result.{on_ok_weaker}
use Rattle.std.specs.Vec.{with_items}
use Rattle.hippo_model.specs.Terms.{ShownRow}
use Rattle.hippo_distinct.proofs.KeptLemmas.{row_eq}
use Rattle.hippo_audit_needs.specs.declared.group_marks.GroupMarks.{GroupMarks}
use Rattle.hippo_audit_needs.specs.GroupMarks.{PlacedRow, marks_of}
use Rattle.hippo_groups.proofs.KeptLemmas.{joined-if, begun}
use Rattle.hippo_audit_needs.proofs.marking.MarkedGroups.add.Goals as goal

pub returns-in-Some : goal.returns-in-Some
returns-in-Some c found are =
    let known = ap (λ (key : ShownRow). position (λ cells. row_eq key cells.items) c.args.self.now.keys.keys) (sym c.front-key.ensures) ∙ sym c.get_index_of.ensures.index ∙ c.in-Some.is in
    let member : PlacedRow = record { row = c.args.row; places = c.args.places.now } in
    joined-if (λ member. member.row) c.args.shape.now.keys (λ key members. marks_of c.args.shape.now.outs members) found member c.args.self.now.marks.items c.args.self.now.keys.keys are
    c.in-Some.place known c.join_at.result (with_items c.args.self.now.marks c.join_at.new.groups).items
    (λ front back key members before at. on_ok_weaker c.join_at.result (λ is. with_items_is c.args.self.now.marks c.join_at.new.groups (omega (arith, c.join_at.auto.groups, c.deref_mut.ensures.len)) ∙ is)
    (c.join_at.ensures front back members (c.deref_mut.ensures.value ∙ before) at))

pub returns : goal.returns
returns c found are =
    let missing = ap (λ (key : ShownRow). list_any (λ cells. row_eq key cells.items) c.args.self.now.keys.keys) (sym c.front-key.ensures) ∙ sym c.get_index_of.ensures.found ∙ ap is_some c.in_default.is in
    let member : PlacedRow = record { row = c.args.row; places = c.args.places.now } in
    begun (λ member. member.row) c.args.shape.now.keys (λ key members. marks_of c.args.shape.now.outs members) found member c.args.self.now.marks.items c.args.self.now.keys.keys are
    missing c.push.new.self.items c.insert.new.self.keys c.into_front.result c.into_front.ensures
    (c.in_ok-push.ensures.items ∙ ap (λ (new : GroupMarks). c.args.self.now.marks.items ++ new ∷ []) c.in_ok-first.ensures)
    c.in_ok-insert.ensures.keys
