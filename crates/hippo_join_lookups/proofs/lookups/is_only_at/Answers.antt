-- The value at the place is the same.
use Rattle.std.proofs.Common.{◌≡◌, ℕ, sym, ap, ◌∙◌, arith, get_or}
use Rattle.std.specs.Ordering.{is_eq}
use Rattle.hippo_values.specs.declared.values.Value.{Value}
use Rattle.hippo_values.specs.Order.{value_cmp}
use Rattle.hippo_join_lookups.proofs.LookupLemmas.{stands-at}
use Rattle.hippo_join_lookups.proofs.lookups.is_only_at.Goals as goal

pub returns-then-is_above_at-clause-same : goal.returns-then-is_above_at-clause-same
returns-then-is_above_at-clause-same c = λ yes set column places index k after short there.
    let values = c.args.values.now in
    let value = c.args.value.now in
    let read = c.index-values-place.result in
    let at : k ≡ c.args.place = omega (arith, after, short) in
    sym (stands-at set column values places value index is_eq k read there)
    ∙ ap (λ (j : ℕ). is_eq (value_cmp (get_or values j read) value)) at
    ∙ ap (λ (own : Value). is_eq (value_cmp own value)) (sym c.index-values-place.is) ∙ sym c.is_same.ensures ∙ c.if-not-is_same.false
