-- After a value that is above there is no equal one; none before it is above.
use Rattle.std.proofs.Common.{◌≡◌, true, inl, inr, sym, ap, ◌∙◌, arith, get_or}
use Rattle.std.specs.Ordering.{is_le}
use Rattle.hippo_values.specs.declared.values.Value.{Value}
use Rattle.hippo_values.specs.Order.{value_cmp}
use Rattle.hippo_join_lookups.specs.Lookups.{value_at_place}
use Rattle.hippo_join_lookups.proofs.LookupLemmas.{before-end, before-all, stands-at}
use Rattle.hippo_join_lookups.proofs.PlaceSteps.{below_or_at}
use Rattle.hippo_join_lookups.proofs.lookups.end_with.Goals as goal

pub returns-then-not-is_within-clause-upto : goal.returns-then-not-is_within-clause-upto
returns-then-not-is_within-clause-upto c = λ set column places index.
    before-end set column c.args.values.now places c.args.value.now index c.loop-end.end c.index-values-end.result c.loop-end-test.true
    (ap (λ (own : Value). is_le (value_cmp own c.args.value.now)) (sym c.index-values-end.is) ∙ sym c.is_within.ensures ∙ c.if-not-is_within.true)

pub loop-end-preserved : goal.loop-end-preserved
loop-end-preserved c = λ set column places index k after short there.
    let values = c.args.values.now in
    let value = c.args.value.now in
    let read = c.index-values-end.result in
    elim (below_or_at k c.loop-end.end short) as (λ _. is_le (value_cmp (value_at_place set column (get_or places k 0)) value) ≡ true) [
      | inl before ↦ c.loop-end.invariant set column places index k after before there
      | inr last ↦
          sym (stands-at set column values places value index is_le k read there)
          ∙ ap (λ j. is_le (value_cmp (get_or values j read) value)) last
          ∙ ap (λ (own : Value). is_le (value_cmp own value)) (sym c.index-values-end.is) ∙ sym c.is_within.ensures ∙ c.if-not-is_within.false
    ]

pub returns-clause-upto : goal.returns-clause-upto
returns-clause-upto c = λ set column places index k within equal. before-all set column c.args.values.now places c.args.value.now index k within

pub returns-clause-within : goal.returns-clause-within
returns-clause-within c = λ set column places index k after short there. c.loop-end.invariant set column places index k after (omega (arith, short, c.loop-end-test.false)) there
