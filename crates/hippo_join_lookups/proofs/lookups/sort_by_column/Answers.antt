-- The closure compares the values at the two places.
use Rattle.std.proofs.Common.{◌≡◌, ap, rules}
use Rattle.std.specs.Ordering.{is_lt}
use Rattle.std.proofs.lemmas.Fn.{always_returns_same}
use Rattle.std.proofs.lemmas.List.Sorted.{ranks_by}
use Rattle.hippo_values.specs.Order.{value_cmp}
use Rattle.hippo_values.specs.OrderLaws.{value_total}
use Rattle.hippo_join_lookups.specs.Lookups.{value_at_place}
use Rattle.hippo_join_lookups.proofs.lookups.sort_by_column.Goals as goal

pub returns-clause-order : goal.returns-clause-order
returns-clause-order c =
    let value = value_at_place c.args.set.now c.args.column in
    c.sort_unstable_by.ensures.sorted _ (ranks_by value_total value)
    (always_returns_same _ _ _ (λ a r f' k. let compared : r ≡ value_cmp (value a.0.now) (value a.1.0.now) = search rules in (ap is_lt compared, search rules)))
