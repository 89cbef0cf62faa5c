-- A qualifying place has the value of the tie, which is not null.
use Rattle.std.proofs.Common.{◌≡◌, List, Some, sym, subst, ◌∙◌}
use Rattle.std.specs.Prelude.{slice_get}
use Rattle.std.specs.List.{Contains}
use Rattle.std.proofs.lemmas.Bool.{false≢true}
use Rattle.hippo_values.specs.declared.values.Value.{Value}
use Rattle.hippo_model.specs.Terms.{Place}
use Rattle.hippo_tables_keyed.specs.RowSets.{KeyedRows, value_at_place}
use Rattle.hippo_tables_keyed.proofs.Orders.{value_exact}
use Rattle.hippo_join_lookups.specs.Lookups.{IsIndex}
use Rattle.hippo_join_lookups.proofs.PruneLemmas.{in-range}
use Rattle.hippo_join_stages.proofs.ReachLemmas.{order-tied, not-null, of-some, set-at}
use Rattle.hippo_join_stages.proofs.sides.Side.places_with.Goals as goal

pub returns-then-is_null-clause-reaches : goal.returns-then-is_null-clause-reaches
returns-then-is_null-clause-reaches g c = λ places counts same place at.
    let some = not-null (g.C.ChoiceView.choices c.args.self.now.choices.now) c.args.self.now.query.now c.args.self.now.sets.now places counts c.args.stage.now c.args.tie.now c.args.value.now c.requires.stage c.requires.tie same in
    absurd (false≢true (sym some ∙ sym c.is_null.ensures ∙ c.if-is_null.true))

pub returns-else-is_null-clause-reaches : goal.returns-else-is_null-clause-reaches
returns-else-is_null-clause-reaches g c = λ places counts same place at.
    let choices = g.C.ChoiceView.choices c.args.self.now.choices.now in
    let query = c.args.self.now.query.now in
    let sets = c.args.self.now.sets.now in
    let stage = c.args.stage.now in
    let tie = c.args.tie.now in
    let there = set-at sets places stage.table place (in-range choices query sets places counts) at in
    let index : IsIndex there.0 tie.column stage.values.items stage.places.items = of-some (λ t. (set : KeyedRows) → slice_get sets stage.table ≡ Some set → IsIndex set t.column stage.values.items stage.places.items) stage.tie tie c.requires.stage.ordered c.requires.tie there.0 there.1 in
    c.with_value.ensures.all there.0 tie.column
    (subst (λ (some : List Place). IsIndex there.0 tie.column c.as_slice.result.now some) (sym c.as_slice-places.ensures.value)
    (subst (λ (values : List Value). IsIndex there.0 tie.column values stage.places.items) (sym c.as_slice.ensures.value) index))
    place (subst (λ (some : List Place). Contains some place) (sym c.as_slice-places.ensures.value) (c.requires.stage.reaches places counts place at))
    (order-tied choices query sets places counts stage tie c.args.value.now c.requires.stage c.requires.tie same there.0 place there.1 at)

pub returns-else-is_null-clause-equal : goal.returns-else-is_null-clause-equal
returns-else-is_null-clause-equal g c = λ set at place has.
    let stage = c.args.stage.now in
    let tie = c.args.tie.now in
    let index : IsIndex set tie.column stage.values.items stage.places.items = of-some (λ t. (set : KeyedRows) → slice_get c.args.self.now.sets.now stage.table ≡ Some set → IsIndex set t.column stage.values.items stage.places.items) stage.tie tie c.requires.stage.ordered c.requires.tie set at in
    let own : IsIndex set tie.column c.as_slice.result.now c.as_slice-places.result.now =
    subst (λ (some : List Place). IsIndex set tie.column c.as_slice.result.now some) (sym c.as_slice-places.ensures.value)
    (subst (λ (values : List Value). IsIndex set tie.column values stage.places.items) (sym c.as_slice.ensures.value) index) in
    (value_exact (value_at_place set tie.column place) c.args.value.now (c.with_value.ensures.none_else set tie.column own place has), sym c.is_null.ensures ∙ c.if-is_null.false)
