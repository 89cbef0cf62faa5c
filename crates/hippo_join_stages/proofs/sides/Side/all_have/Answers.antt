-- The first column of the key has the value in each row of the span.
use Rattle.std.proofs.Common.{◌≡◌, List, Some, sym, ap, ◌∙◌}
use Rattle.std.specs.Prelude.{slice_get}
use Rattle.hippo_model.specs.Terms.{Place}
use Rattle.hippo_tables_keyed.specs.RowSets.{KeyedRows, value_at_place}
use Rattle.hippo_join_stages.proofs.KeyLemmas.{out-span}
use Rattle.hippo_join_stages.proofs.sides.Side.all_have.Goals as goal

some_is : {A : Type 0} {a b : A} → Some a ≡ Some b → a ≡ b
some_is e = cc

pub returns-in-Some : goal.returns-in-Some
returns-in-Some g c = λ yes set at place there.
    let within = out-span c.args.span.start c.args.span.end place there in
    let own : c.get-set.result.now ≡ set = some_is (sym c.get-set.ensures ∙ at) in
    let first : slice_get c.get-set.result.now.key 0 ≡ Some c.args.column.column = sym (ap (λ (key : List Place). slice_get key 0) (c.as_slice.ensures ∙ c.key.ensures)) ∙ sym c.in-Some.ensures.value ∙ ap Some c.if-first-column.true in
    (ap (λ (s : KeyedRows). value_at_place s c.args.column.column place) (sym own) ∙ c.all_begin_with.ensures yes c.args.column.column first place within.0 within.1, sym c.is_null.ensures ∙ c.if-not-is_null.true)
