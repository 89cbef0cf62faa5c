-- The order so far begins with the first tables, and has each table below the next one.
use Rattle.std.proofs.Common.{◌≡◌, ◌<◌, take, length}
use Rattle.std.specs.List.{All, Contains}
use Rattle.hippo_model.specs.Terms.{Place}
use Rattle.hippo_audit_common.proofs.commons.tables_from.Given as goal

abbrev pub invariant-loop-table : goal.invariant-loop-table
invariant-loop-table l = record {
  below : All (λ table. table < l.tables) l.order.items;
  whole : (table : Place) → table < l.table → Contains l.order.items table;
  front : take (length l.first) l.order.items ≡ l.first;
}
