-- The rows so far, and the remaining ones.
use Rattle.std.proofs.Common.{◌≡◌, ◌≤◌, ◌+◌, length, drop}
use Rattle.std.specs.Prelude.{filter}
use Rattle.hippo_model.specs.Hits.{own_conditions, is_hit}
use Rattle.hippo_watch_counts.specs.Rows.{hits_among}
use Rattle.hippo_watch_counts.proofs.counts.count_in.Given as goal

abbrev pub invariant-loop-place : goal.invariant-loop-place
invariant-loop-place l = record {
  within : l.count ≤ l.place;
  left : l.count + length (filter (is_hit (own_conditions l.audit l.table)) (drop l.place l.rows.rows)) ≡ hits_among (own_conditions l.audit l.table) l.rows;
}
