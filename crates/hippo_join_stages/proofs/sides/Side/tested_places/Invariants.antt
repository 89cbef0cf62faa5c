-- The places so far contain each tested place that qualifies.
use Rattle.std.proofs.Common.{◌≡◌, ℕ, ◌<◌, true, List, length, get_or, Some}
use Rattle.std.specs.Prelude.{slice_get, slice_set}
use Rattle.std.specs.List.{Contains}
use Rattle.hippo_model.specs.Terms.{Place}
use Rattle.hippo_join_lookups.specs.Places.{Fits, rows_at, stands}
use Rattle.hippo_join_stages.specs.Walking.{candidate_places}
use Rattle.hippo_join_stages.proofs.sides.Side.tested_places.Given as goal

abbrev pub invariant-loop-index : goal.invariant-loop-index
invariant-loop-index g l = record {
  long : length l.slots.items ≡ length l.self.sets.now;
  rows : l.rows ≡ rows_at l.self.sets.now l.slots.items;
  fit : (places : List Place) → length places ≡ length l.self.sets.now → (place : Place) → slice_get places l.table ≡ Some place → Fits (slice_set l.slots.items l.table (Some place)) places;
  so_far : (places : List Place) → stands (g.C.ChoiceView.choices l.self.choices.now) l.self.query.now l.self.sets.now places ≡ true
      → (place : Place) → slice_get places l.table ≡ Some place → (k : ℕ) → k < l.index → get_or (candidate_places l.candidates) k 0 ≡ place → Contains l.places.items place;
}
