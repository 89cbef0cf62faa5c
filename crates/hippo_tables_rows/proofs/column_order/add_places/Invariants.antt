-- The rows whose entries are between the first place and this one are found.
use Rattle.std.proofs.Common.{◌<◌, length}
use Rattle.std.specs.List.{All}
use Rattle.hippo_tables_rows.specs.ColumnOrders.{AreGathered}
use Rattle.hippo_tables_rows.proofs.column_order.add_places.Given as goal

abbrev pub invariant-loop-place : goal.invariant-loop-place
invariant-loop-place l = record {
  range : All (λ place. place < length l.set.rows) l.initial.places.items → All (λ place. place < length l.set.rows) l.places.items;
  gathered : AreGathered l.entries l.set l.start l.place l.places.items;
}
