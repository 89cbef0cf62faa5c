-- The orders that are skipped need no invariant.
use Rattle.hippo_tables_rows.proofs.column_order.entries_by.Given as goal

abbrev pub invariant-loop-order : goal.invariant-loop-order
invariant-loop-order l = Unit {0}
