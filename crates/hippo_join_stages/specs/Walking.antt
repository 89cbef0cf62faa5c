-- The stages of a nested-loop walk: each is materialised, or its rows are looked up.
use Rattle.std.specs.Prelude.{◌≡◌, ◌-◌, Bool, true, false, List, length, map, Option}
use Rattle.std.specs.List.{All, range_with_len}
use Rattle.std.specs.List.Sorted.{IsStrictlyIncreasing}
use Rattle.hippo_model.specs.declared.query.Masked.{Masked}
use Rattle.hippo_model.specs.Terms.{Place}
use Rattle.hippo_tables_keyed.specs.RowSets.{KeyedRows}
use Rattle.hippo_model.specs.Masking.{Choices}
use Rattle.hippo_join_stages.specs.declared.stages.Stage.{Stage}
use Rattle.hippo_join_stages.specs.declared.following.Following.{Following}
use Rattle.hippo_join_stages.specs.declared.following.Following.TheVariants.{Listed, Searched, Found}
use Rattle.hippo_join_stages.specs.Stages.{IsStage, Suffices}
use Rattle.hippo_join_stages.specs.Finding.{Covers}

-- the places as a list
abbrev pub candidate_places : Following → List Place
candidate_places (Listed places) = places.now
candidate_places (Searched span) = range_with_len span.start (span.end - span.start)
candidate_places (Found places) = places.items

-- a stage contains all places of its table that can qualify, unless it looks them up; `suffices`
-- means that the tie suffices
pub record IsWalkable (choices : Choices) (query : Masked) (sets : List KeyedRows) (stage : Stage)
    : Type 0 where
  pub listed : stage.is_searched ≡ false → IsStage choices query sets stage
  pub enough : stage.suffices ≡ true → Suffices choices query stage.table stage.tie

-- the stages of tables in an order; with `lists`, none looks its places up
pub record AreWalkable
    (choices : Choices) (query : Masked) (sets : List KeyedRows)
    (lists : Bool) (order : List Place) (stages : List Stage) : Type 0 where
  pub each : All (λ stage. IsWalkable choices query sets stage
      × (lists ≡ true → stage.is_searched ≡ false)) stages
  pub tables : map (λ stage. stage.table) stages ≡ order

-- the stages of a walk, given the rows chosen before; in the order of FROM if that is required
pub record CanWalk
    (choices : Choices) (query : Masked) (sets : List KeyedRows) (in_order : Bool)
    (stages : List Stage) (slots : List (Option Place)) : Type 0 where
  pub long : length slots ≡ length sets
  pub walkable : All (IsWalkable choices query sets) stages
  pub covers : Covers stages slots
  pub rises : in_order ≡ true → IsStrictlyIncreasing (map (λ stage. stage.table) stages)
