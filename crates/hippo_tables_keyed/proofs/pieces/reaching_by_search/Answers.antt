-- The pieces are partitioned by their ends.
use Rattle.std.proofs.Common.{nat_le, rules}
use Rattle.std.proofs.lemmas.List.Sorted.{IsPartitionPoint-from_clause, IsPartitionedBy-leb}
use Rattle.hippo_tables_keyed.specs.declared.pieces.Piece.{Piece}
use Rattle.hippo_tables_keyed.proofs.PiecesLemmas.{ends_rise, IsReached-parted}
use Rattle.hippo_tables_keyed.proofs.pieces.reaching_by_search.Goals as goal

pub returns : goal.returns
returns g c =
    let pieces = c.args.pieces.now in
    let parted = IsPartitionPoint-from_clause (λ (piece : Piece g.row.T.Denot). nat_le piece.end c.args.place) pieces c.partition_point-index.result c.partition_point-index.ensures.partitioned (IsPartitionedBy-leb (λ (piece : Piece g.row.T.Denot). piece.end) pieces c.args.place (ends_rise pieces c.requires)) (λ a r f called. search rules) in
    IsReached-parted pieces c.requires c.args.place c.partition_point-index.result c.start.result c.partition_point-index.ensures.bound parted c.start.ensures
