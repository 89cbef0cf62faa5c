-- The pages are partitioned by their last numbers.
use Rattle.std.proofs.Common.{◌∙◌, leb, ap, filter, nat_lt, rules}
use Rattle.std.proofs.lemmas.List.{take_rest}
use Rattle.std.proofs.lemmas.List.Sorted.{IsPartitionedBy-leb, IsPartitionPoint-from_clause}
use Rattle.hippo_keeper.specs.Keeping.{Store, last_number}
use Rattle.hippo_keeper.specs.Paging.{paged}
use Rattle.hippo_keeper.proofs.PagesLemmas.{lasts_in_order, pages_from}
use Rattle.hippo_keeper.proofs.pages.pages_above.Goals as goal

pub returns : goal.returns
returns c =
    let pages = c.args.pages.now in
    let place = c.partition_point-place.result in
    let order = IsPartitionedBy-leb (λ (page : Store). last_number 0 page) pages c.args.after (lasts_in_order 0 pages c.requires.filled c.requires.order) in
    let split = IsPartitionPoint-from_clause (λ (page : Store). leb (last_number 0 page) c.args.after) pages place c.partition_point-place.ensures.partitioned order (λ a r f called. search rules) in
    ap (λ rest. filter (λ entry. nat_lt c.args.after entry.seq) (paged rest)) (take_rest pages place)
    ∙ pages_from c.args.after 0 pages place c.requires.filled c.requires.order split
