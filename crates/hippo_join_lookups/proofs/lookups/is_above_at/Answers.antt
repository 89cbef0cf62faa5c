-- An equal value comes before one that is above.
use Rattle.std.proofs.Common.{◌≡◌, Bool, true, false, refl, sym, ap, ◌∙◌}
use Rattle.std.specs.Prelude.{not}
use Rattle.std.specs.Ordering.{is_le}
use Rattle.std.proofs.lemmas.Bool.{false≢true}
use Rattle.hippo_values.specs.declared.values.Value.{Value}
use Rattle.hippo_values.specs.Order.{value_cmp}
use Rattle.hippo_join_lookups.proofs.LookupLemmas.{before-end}
use Rattle.hippo_join_lookups.proofs.lookups.is_above_at.Goals as goal

not_so : (b : Bool) → not b ≡ true → b ≡ false
not_so true e = absurd (false≢true e)
not_so false e = refl

pub returns-then-place-values : goal.returns-then-place-values
returns-then-place-values c = λ yes set column places index.
    before-end set column c.args.values.now places c.args.value.now index c.args.place c.index-values-place.result c.if-place-values.true
    (ap (λ (own : Value). is_le (value_cmp own c.args.value.now)) (sym c.index-values-place.is) ∙ sym c.is_within.ensures ∙ not_so c.is_within.result yes)
