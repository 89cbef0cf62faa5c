-- The binary search skips the values that are below.
use Rattle.std.proofs.Common.{sym, ◌∙◌, rules}
use Rattle.std.specs.Ordering.{is_lt}
use Rattle.std.proofs.lemmas.List.Sorted.{IsPartitionPoint-from_clause}
use Rattle.hippo_values.specs.Order.{value_cmp}
use Rattle.hippo_join_lookups.proofs.LookupLemmas.{parted-below, from-start, stands-at}
use Rattle.hippo_join_lookups.proofs.lookups.start_with.Goals as goal

pub returns-clause-from : goal.returns-clause-from
returns-clause-from c = λ set column places index.
    let values = c.args.values.now in
    let value = c.args.value.now in
    let parted = parted-below set column values places value index in
    let point = IsPartitionPoint-from_clause (λ own. is_lt (value_cmp own value)) _ _ c.partition_point.ensures.partitioned parted (λ a r q k. search rules) in
    from-start set column values places value index c.partition_point.result point

pub returns-clause-above : goal.returns-clause-above
returns-clause-above c = λ set column places index k after within there.
    let values = c.args.values.now in
    let value = c.args.value.now in
    let parted = parted-below set column values places value index in
    let point = IsPartitionPoint-from_clause (λ own. is_lt (value_cmp own value)) _ _ c.partition_point.ensures.partitioned parted (λ a r q k. search rules) in
    sym (stands-at set column values places value index is_lt k value there) ∙ point.1 k value after within
