-- The places so far are among those found.
use Rattle.std.proofs.Common.{◌<◌, ◌≤◌, length}
use Rattle.std.specs.List.{All, Contains}
use Rattle.hippo_model.specs.Terms.{Place}
use Rattle.hippo_tables_rows.proofs.ranges.places_between.Given as goal

abbrev pub invariant-loop-place : goal.invariant-loop-place
invariant-loop-place l = record {
  range : All (λ place. place < length l.set.rows) l.places.items;
  found : (place : Place) → l.start ≤ place → place < l.place → Contains l.places.items place;
}
