-- The index contains the same places, and the tie holds in each qualifying combination.
use Rattle.std.proofs.Common.{◌≡◌, Some, sym, subst, ◌∙◌}
use Rattle.std.proofs.lemmas.List.Sorted.{Contains-permutation}
use Rattle.hippo_tables_keyed.specs.RowSets.{KeyedRows}
use Rattle.hippo_join_lookups.specs.Lookups.{IsIndex}
use Rattle.hippo_join_stages.proofs.ReachLemmas.{tie-counts}
use Rattle.hippo_join_stages.proofs.sides.Side.listed_stage.Goals as goal

some_is : {A : Type 0} {a b : A} → Some a ≡ Some b → a ≡ b
some_is e = cc

pub returns-clause-stage : goal.returns-clause-stage
returns-clause-stage g c =
    let choices = g.C.ChoiceView.choices c.args.self.now.choices.now in
    let query = c.args.self.now.query.now in
    let sets = c.args.self.now.sets.now in
    let index = c.in_ok-index.index in
    record {
      reaches = λ places counts place at. Contains-permutation c.in_ok-places.places.items index.places.items place c.in_ok-index.ensures.permutation (c.in_ok-places.ensures places counts place at);
      tied = tie-counts choices query sets c.args.table c.in-Some.tie c.outer_parts.result.now c.outer_parts.ensures c.in-Some.ensures;
      ordered = λ set at. subst (λ (s : KeyedRows). IsIndex s c.in-Some.tie.column index.values.items index.places.items) (some_is (sym c.get.ensures ∙ at)) c.in_ok-index.ensures.index;
      enough = c.suffices-2.ensures;
    }
