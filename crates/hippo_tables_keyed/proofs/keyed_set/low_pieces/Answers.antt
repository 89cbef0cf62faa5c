use Rattle.std.proofs.Common.{rules}
use Rattle.std.proofs.lemmas.List.Sorted.{IsPartitionPoint-from_clause}
use Rattle.hippo_model.specs.declared.born_row.BornRow.{BornRow}
use Rattle.hippo_tables_keyed.specs.declared.pieces.Piece.{Piece}
use Rattle.hippo_tables_keyed.specs.Pieces.{begins_low}
use Rattle.hippo_tables_keyed.specs.Searches.{target_order}
use Rattle.hippo_tables_keyed.proofs.keyed_set.low_pieces.Goals as goal

pub returns-clause-parted : goal.returns-clause-parted
returns-clause-parted c first =
    IsPartitionPoint-from_clause (λ (piece : Piece BornRow). begins_low (target_order c.args.places.now c.args.target.now) piece.members.items)
    c.args.pieces.now c.partition_point.result c.partition_point.ensures.partitioned first (λ a r f called. search rules)
