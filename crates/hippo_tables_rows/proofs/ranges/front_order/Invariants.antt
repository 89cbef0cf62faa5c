-- The values are equal so far, so the rest decides.
use Rattle.std.proofs.Common.{◌≡◌, length, drop}
use Rattle.hippo_model.specs.Rows.{key_of}
use Rattle.hippo_tables_rows.specs.Ranges.{front_cmp}
use Rattle.hippo_tables_rows.proofs.ranges.front_order.Given as goal

abbrev pub invariant-loop-column : goal.invariant-loop-column
invariant-loop-column l = front_cmp (key_of l.columns l.row) l.front ≡ front_cmp (key_of (drop (length l.yielded) l.columns) l.row) (drop (length l.yielded) l.front)
