-- The row belongs to a group that exists, or to a new one.
use Rattle.std.proofs.Common.{[], ◌∷◌, ◌++◌, map, sym, ap, ◌∙◌, arith}
use Rattle.std.specs.Prelude.{position, is_some}
use Rattle.std.specs.List.{list_any}
use Rattle.std.proofs.lemmas.List.{with_items_is}
use Rattle.std.proofs.lemmas.Result.{on_ok_weaker}
use Rattle.std.specs.Vec.{with_items}
use Rattle.hippo_model.specs.Terms.{ShownRow}
use Rattle.hippo_model.specs.Forms.{group_cell}
use Rattle.hippo_distinct.proofs.KeptLemmas.{row_eq}
use Rattle.hippo_groups.proofs.KeptLemmas.{joined-if, begun}
use Rattle.hippo_groups.proofs.grouping.Groups.add.Goals as goal

pub returns-in-Some : goal.returns-in-Some
returns-in-Some g c found are is_key =
    let row = g.R.LentRow.cells c.args.row.now in
    let known = ap (λ (key : ShownRow). position (λ cells. row_eq key cells.items) c.args.self.now.keys.keys) (sym (c.as_slice-key.ensures ∙ is_key)) ∙ sym c.get_index_of.ensures.index ∙ c.in-Some.is in
    joined-if (λ row. row) c.args.shape.now.keys (λ key members. map (group_cell key members) c.args.shape.now.outs) found row c.args.self.now.rows.items c.args.self.now.keys.keys are
    c.in-Some.place known c.join_at.result (with_items c.args.self.now.rows c.join_at.new.rows).items
    (λ front back key rows before at. on_ok_weaker c.join_at.result (λ is. with_items_is c.args.self.now.rows c.join_at.new.rows (omega (arith, c.join_at.auto.rows, c.deref_mut.ensures.len)) ∙ is)
    (c.join_at.ensures front back key rows (c.deref_mut.ensures.value ∙ before) at))

pub returns : goal.returns
returns g c found are is_key =
    let row = g.R.LentRow.cells c.args.row.now in
    let missing = ap (λ (key : ShownRow). list_any (λ cells. row_eq key cells.items) c.args.self.now.keys.keys) (sym (c.as_slice-key.ensures ∙ is_key)) ∙ sym c.get_index_of.ensures.found ∙ ap is_some c.in_default.is in
    let first = c.in_ok-first.ensures ∙ ap (λ (key : ShownRow). map (group_cell key (row ∷ [])) c.args.shape.now.outs) (c.as_slice-key.ensures ∙ is_key) in
    begun (λ row. row) c.args.shape.now.keys (λ key members. map (group_cell key members) c.args.shape.now.outs) found row c.args.self.now.rows.items c.args.self.now.keys.keys are
    missing c.push.new.self.items c.insert.new.self.keys c.into_vec.result (c.into_vec.ensures ∙ c.replace-key.ensures.value ∙ is_key)
    (c.in_ok-push.ensures.items ∙ ap (λ (new : ShownRow). c.args.self.now.rows.items ++ new ∷ []) first)
    c.in_ok-insert.ensures.keys
