-- The value in the column, and the values of the key so far.
use Rattle.std.proofs.Common.{◌≡◌, take}
use Rattle.hippo_tables_rows.specs.ColumnOrders.{order_key}
use Rattle.hippo_tables_rows.proofs.column_order.entry_of.Given as goal

abbrev pub invariant-loop-place : goal.invariant-loop-place
invariant-loop-place l = l.entry ≡ order_key l.column (take l.place-index l.key) l.row
