-- Places whose values ascend are sorted by these values.
use Rattle.std.proofs.Common.{map, subst, ap, ◌∙◌, List}
use Rattle.std.specs.List.Sorted.{IsSorted}
use Rattle.hippo_values.specs.declared.values.Value.{Value}
use Rattle.hippo_values.specs.Order.{value_cmp}
use Rattle.hippo_join_lookups.specs.Lookups.{value_at_place}
use Rattle.hippo_join_lookups.proofs.LookupLemmas.{rises-by_values}
use Rattle.hippo_join_lookups.proofs.lookups.index_by_column.Goals as goal

pub returns-then-rises-clause-index : goal.returns-then-rises-clause-index
returns-then-rises-clause-index c =
    let set = c.args.set.now in
    let column = c.args.column in
    let values = c.in_ok-values.values.items in
    let are = c.in_ok-values.ensures ∙ ap (map (value_at_place set column)) c.deref.ensures.value in
    let up : IsSorted value_cmp values = subst (λ (l : List Value). IsSorted value_cmp l) c.deref-2.ensures.value (c.rises.ensures c.if-rises.true) in
    record { are = are; rise = rises-by_values set column values c.args.places.items are up }
