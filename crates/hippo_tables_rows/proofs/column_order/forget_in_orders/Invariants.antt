-- The orders before this place are those of the set without the row.
use Rattle.hippo_tables_keyed.specs.RowSets.{without_row}
use Rattle.hippo_tables_rows.specs.ColumnOrders.{IsOrderOf, AreOrdersOf}
use Rattle.hippo_model.proofs.ChangeLoops.{AreChangedTo}
use Rattle.hippo_tables_rows.proofs.column_order.forget_in_orders.Given as goal

abbrev pub invariant-loop-place : goal.invariant-loop-place
invariant-loop-place l =
    AreOrdersOf l.set l.initial.orders → AreChangedTo (IsOrderOf l.set) (IsOrderOf (without_row l.key l.set)) l.orders l.place
