-- The mark, and the best values that were changed in place.
use Rattle.std.proofs.Common.{[], ◌∷◌, sym, ap, ◌∙◌, arith}
use Rattle.std.proofs.lemmas.List.{map-append, with_items_is}
use Rattle.hippo_audit_search.specs.Marks.{mark_of}
use Rattle.hippo_audit_needs.specs.declared.group_marks.GroupMarks.{GroupMarks}
use Rattle.hippo_audit_needs.specs.GroupMarks.{PlacedRow, member_places}
use Rattle.hippo_audit_needs.proofs.group_marks.joined.Goals as goal

pub returns : goal.returns
returns c = λ members was.
    let member : PlacedRow = record { row = c.args.row.now; places = c.args.places.now } in
    let mark = c.in_ok-mark_with.ensures (member_places members) (ap (λ (group : GroupMarks). group.mark) was)
    ∙ ap mark_of (sym (map-append (λ (one : PlacedRow). one.places) members (member ∷ []))) in
    let bests = c.from_vec.ensures
    ∙ with_items_is c.into_vec-bests.result c.join.new.bests (omega (arith, c.join.auto.bests, c.deref_mut.ensures.len))
    ∙ c.in_ok-join.ensures members (c.deref_mut.ensures.value ∙ c.into_vec-bests.ensures ∙ ap (λ (group : GroupMarks). group.bests) was) in
    λ i. record { mark = mark i; bests = bests i }
