-- The values are partitioned by the number, and the last one before the partition point is taken.
use Rattle.std.proofs.Common.{rules, ◌∙◌, sym, ap, option_map, nat_le}
use Rattle.std.proofs.lemmas.List.Sorted.{IsPartitionPoint-from_clause, IsPartitionedBy-leb}
use Rattle.hippo_policy.specs.Words.{Said}
use Rattle.hippo_policy.proofs.SaidLemmas.{latest-parted}
use Rattle.hippo_policy.proofs.last_words.latest.Goals as goal

pub returns-in-None : goal.returns-in-None
returns-in-None g c rises =
    let parted = IsPartitionPoint-from_clause (λ (said : Said g.row.W.Denot). nat_le said.number c.args.n) c.args.words.now c.partition_point-end.result c.partition_point-end.ensures.partitioned (IsPartitionedBy-leb (λ (said : Said g.row.W.Denot). said.number) c.args.words.now c.args.n rises) (λ a r f called. search rules) in
    let found = latest-parted c.args.n c.args.words.now c.partition_point-end.result parted in
    sym (found ∙ ap (option_map (λ (said : Said g.row.W.Denot). said.word)) (sym c.in-None.ensures.value))

pub returns-in-Some : goal.returns-in-Some
returns-in-Some g c rises =
    let parted = IsPartitionPoint-from_clause (λ (said : Said g.row.W.Denot). nat_le said.number c.args.n) c.args.words.now c.partition_point-end.result c.partition_point-end.ensures.partitioned (IsPartitionedBy-leb (λ (said : Said g.row.W.Denot). said.number) c.args.words.now c.args.n rises) (λ a r f called. search rules) in
    let found = latest-parted c.args.n c.args.words.now c.partition_point-end.result parted in
    sym (found ∙ ap (option_map (λ (said : Said g.row.W.Denot). said.word)) (sym c.in-Some.ensures.value))
