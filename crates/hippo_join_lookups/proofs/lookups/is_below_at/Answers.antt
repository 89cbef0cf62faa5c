-- An equal value comes after one that is below; after one that is not below, none is below.
use Rattle.std.proofs.Common.{sym, ap, ◌∙◌}
use Rattle.std.specs.Ordering.{is_lt}
use Rattle.hippo_values.specs.declared.values.Value.{Value}
use Rattle.hippo_values.specs.Order.{value_cmp}
use Rattle.hippo_join_lookups.proofs.LookupLemmas.{remaining-below, none-below}
use Rattle.hippo_join_lookups.proofs.lookups.is_below_at.Goals as goal

pub returns-then-place-values-clause-below : goal.returns-then-place-values-clause-below
returns-then-place-values-clause-below c = λ yes set column places index.
    remaining-below set column c.args.values.now places c.args.value.now index c.args.place c.index-values-place.result c.if-place-values.true
    (ap (λ (own : Value). is_lt (value_cmp own c.args.value.now)) (sym c.index-values-place.is) ∙ sym c.is_below.ensures ∙ yes)

pub returns-then-place-values-clause-above : goal.returns-then-place-values-clause-above
returns-then-place-values-clause-above c = λ no set column places index k after within there.
    none-below set column c.args.values.now places c.args.value.now index c.args.place c.index-values-place.result c.if-place-values.true
    (ap (λ (own : Value). is_lt (value_cmp own c.args.value.now)) (sym c.index-values-place.is) ∙ sym c.is_below.ensures ∙ no) k after within there
