-- The remaining columns with the remaining values.
use Rattle.std.proofs.Common.{◌≡◌, ◌≤◌, length, drop, filter_map, slice_get}
use Rattle.std.specs.Cmp.Lexicographic.{pointwise}
use Rattle.hippo_model.specs.Values.{fits}
use Rattle.hippo_tables.proofs.rows.key_fits.Given as goal

abbrev pub invariant-loop-place : goal.invariant-loop-place
invariant-loop-place l = record {
  left : pointwise fits (filter_map (slice_get l.columns) (drop l.place-index l.places)) (drop l.count l.values) ≡ pointwise fits (filter_map (slice_get l.columns) l.places) l.values;
  within : l.count ≤ length l.values;
}
