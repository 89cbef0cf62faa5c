-- The keys are equal up to the index, so the rest decides.
use Rattle.std.proofs.Common.{◌≡◌, drop}
use Rattle.hippo_values.specs.Order.{cells_cmp}
use Rattle.hippo_model.specs.Rows.{key_of}
use Rattle.hippo_tables_keyed.proofs.keyed_set.row_order.Given as goal

abbrev pub invariant-loop-place : goal.invariant-loop-place
invariant-loop-place l = cells_cmp (key_of l.places l.row) (key_of l.places l.other) ≡ cells_cmp (key_of (drop l.place-index l.places) l.row) (key_of (drop l.place-index l.places) l.other)
