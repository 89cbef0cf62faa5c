-- The keys are equal so far, so the rest decides.
use Rattle.std.proofs.Common.{◌≡◌, length, drop}
use Rattle.hippo_values.specs.Order.{cells_cmp}
use Rattle.hippo_model.specs.Rows.{key_of}
use Rattle.hippo_tables_keyed.proofs.keyed_set.key_order.Given as goal

abbrev pub invariant-loop-place : goal.invariant-loop-place
invariant-loop-place l = cells_cmp (key_of l.places l.row) l.key ≡ cells_cmp (key_of (drop (length l.yielded) l.places) l.row) (drop (length l.yielded) l.key)
