-- The places found are appended to those already there.
use Rattle.std.proofs.Common.{◌≡◌, List, sym, subst, ◌∙◌}
use Rattle.std.specs.List.{Contains}
use Rattle.std.proofs.lemmas.List.Elements.{Contains-append_left, Contains-append_right}
use Rattle.hippo_values.specs.declared.values.Value.{Value}
use Rattle.hippo_model.specs.declared.query.Expr.TheVariants.{Literal}
use Rattle.hippo_model.specs.Terms.{Place}
use Rattle.hippo_join_lookups.proofs.lists.add_item.Goals as goal

literal_is : {a b : Value} → Literal a ≡ Literal b → a ≡ b
literal_is e = cc

pub returns-clause-kept : goal.returns-clause-kept
returns-clause-kept c = λ place has.
    subst (λ (l : List Place). Contains l place) (sym c.in_ok-extend_from_slice.ensures.items) (Contains-append_left _ c.as_slice.result.now place has)

pub returns-clause-added : goal.returns-clause-added
returns-clause-added c = λ found place within is.
    let all = rw c.in-Some.is at c.in_ok-found.ensures in
    let has = all place within (literal_is (sym c.in-Literal.is ∙ is)) in
    subst (λ (l : List Place). Contains l place) (sym c.in_ok-extend_from_slice.ensures.items)
    (Contains-append_right _ c.as_slice.result.now place (subst (λ (l : List Place). Contains l place) (sym c.as_slice.ensures.value) has))
