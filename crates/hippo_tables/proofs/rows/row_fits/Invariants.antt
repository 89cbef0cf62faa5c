-- The remaining columns with the remaining values.
use Rattle.std.proofs.Common.{◌≡◌, ◌≤◌, length, drop}
use Rattle.std.specs.Cmp.Lexicographic.{pointwise}
use Rattle.hippo_model.specs.Values.{fits}
use Rattle.hippo_tables.proofs.rows.row_fits.Given as goal

abbrev pub invariant-loop-place : goal.invariant-loop-place
invariant-loop-place l = record {
  left : pointwise fits (drop l.place l.columns) (drop l.place l.values) ≡ pointwise fits l.columns l.values;
  within : l.place ≤ length l.values;
}
