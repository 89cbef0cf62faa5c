-- The orders before this place are ready, and the others still belong to the set.
use Rattle.hippo_tables_rows.specs.ColumnOrders.{IsOrderOf, AreOrdersOf, IsReadyFor}
use Rattle.hippo_model.proofs.ChangeLoops.{AreChangedTo}
use Rattle.hippo_tables_rows.proofs.column_order.prepare_orders.Given as goal

abbrev pub invariant-loop-place : goal.invariant-loop-place
invariant-loop-place l =
    AreOrdersOf l.set l.initial.orders → AreChangedTo (IsOrderOf l.set) (IsReadyFor (record { row = l.row; born = l.born }) l.set) l.orders l.place
