-- The row of a qualifying combination has the values that the condition fixes.
use Rattle.std.proofs.Common.{◌≡◌, ℕ, ◌≤◌, ◌∙◌, arith, List, length, take, Some, sym, subst, ltb-false}
use Rattle.std.specs.Prelude.{slice_get}
use Rattle.hippo_model.specs.Conditions.{outer_parts}
use Rattle.hippo_tables_keyed.specs.RowSets.{KeyedRows}
use Rattle.hippo_model.specs.Terms.{Place}
use Rattle.hippo_join_stages.specs.Keys.{IsKeyTold}
use Rattle.hippo_join_stages.proofs.KeyLemmas.{within-told}
use Rattle.hippo_join_lookups.proofs.PruneLemmas.{get-at}
use Rattle.hippo_join_stages.proofs.sides.Side.span.Goals as goal

some_is : {A : Type 0} {a b : A} → Some a ≡ Some b → a ≡ b
some_is e = cc

pub returns-in-None : goal.returns-in-None
returns-in-None g c =
    let columns = c.as_slice-columns.result.now in
    let front = c.in_ok-front.front in
    let whole : length columns ≤ length front = omega (arith, ltb-false c.len.result (length columns) (sym c.in-None.ensures.lookup.0), c.len.ensures) in
    within-told (g.C.ChoiceView.choices c.args.self.now.choices.now) c.args.self.now.sets.now c.args.slots.now c.args.self.now.query.now c.args.table c.get-set.result.now columns front c.span_with_key.result
    c.get-set.ensures (c.as_slice-columns.ensures ∙ c.key.ensures) whole c.in_ok-front.ensures c.span_with_key.ensures

pub span_from-requires-clause-told : goal.span_from-requires-clause-told
span_from-requires-clause-told g c = λ set at.
    let front = c.in_ok-front.front in
    let Told : List Place → Type 0 = λ columns. IsKeyTold (g.C.ChoiceView.choices c.args.self.now.choices.now) c.args.self.now.sets.now c.args.slots.now (outer_parts c.args.self.now.query.now.cond) c.args.table (take (length front) columns) front in
    subst (λ (own : KeyedRows). Told own.key) (some_is (sym c.get-set.ensures ∙ at)) (subst Told (c.as_slice-columns.ensures ∙ c.key.ensures) c.in_ok-front.ensures)

pub span_from-requires-clause-next : goal.span_from-requires-clause-next
span_from-requires-clause-next g c = λ set at.
    let own : KeyedRows = c.get-set.result.now in
    let column : Place = c.in-Some.column.now in
    let there = get-at c.as_slice-columns.result.now own.key c.len.result column (c.as_slice-columns.ensures ∙ c.key.ensures) c.in-Some.ensures.lookup.0 c.in-Some.ensures.lookup.1 in
    subst (λ (s : KeyedRows). slice_get s.key (length c.in_ok-front.front) ≡ Some column) (some_is (sym c.get-set.ensures ∙ at)) (subst (λ (n : ℕ). slice_get own.key n ≡ Some column) c.len.ensures there)
