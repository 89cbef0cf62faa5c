-- A walk over the qualifying combinations of a join.
use Rattle.std.specs.Prelude.{◌≡◌, Bool, true, None, List, Option, OnOk, Result, slice_set}
use Rattle.std.specs.List.Sorted.{IsStrictlyIncreasing}
use Rattle.hippo_values.specs.declared.memory.Memory.{Memory}
use Rattle.hippo_model.specs.declared.query.Masked.{Masked}
use Rattle.hippo_model.specs.Terms.{Combination, Place}
use Rattle.hippo_model.specs.Masking.{Choices}
use Rattle.hippo_tables_keyed.specs.RowSets.{KeyedRows}
use Rattle.hippo_eval.specs.declared.walks.Onward.{Onward}
use Rattle.hippo_join_lookups.specs.Known.{is_open}
use Rattle.hippo_join_lookups.specs.Places.{are_there, rows_at}
use Rattle.hippo_join_stages.specs.declared.stages.Stage.{Stage}
use Rattle.hippo_join_stages.specs.Stages.{AllQualify, ReachesFrom}
use Rattle.hippo_join_stages.specs.Visiting.{Completes, Visits}
use Rattle.hippo_join_stages.specs.Walking.{CanWalk}
use Rattle.hippo_join.specs.declared.walking.Walk.{Walk}

-- what is joined, and whether it is visited in the order of the product
pub record Join : Type 0 where
  pub choices : Choices
  pub query : Masked
  pub sets : List KeyedRows
  pub in_order : Bool

abbrev pub join_of : {C V : Type 0} → (C → Choices) → Walk C V → Join
join_of choices_of walk = record {
  choices = choices_of walk.side.now.choices.now;
  query = walk.side.now.query.now;
  sets = walk.side.now.sets.now;
  in_order = walk.in_order;
}

-- each chosen row exists, and `rows` are the chosen rows
pub record StandAt (sets : List KeyedRows) (slots : List (Option Place)) (rows : Combination)
    : Type 0 where
  pub there : are_there sets slots ≡ true
  pub are : rows ≡ rows_at sets slots

-- a walk may continue along some stages from the chosen rows
pub record CanGoOn
    (join : Join) (stages : List Stage) (slots : List (Option Place)) (rows : Combination)
    : Type 0 where
  pub can : CanWalk join.choices join.query join.sets join.in_order stages slots
  pub stand : StandAt join.sets slots rows

-- candidate places of a stage, given the chosen rows: all that can qualify, ascending if the join
-- is in order; with `all_count`, each of them qualifies
pub record Follow
    (join : Join) (stage : Stage) (slots : List (Option Place)) (all_count : Bool)
    (places : List Place) : Type 0 where
  pub reaches : ReachesFrom join.choices join.query join.sets slots stage.table places
  pub order : join.in_order ≡ true → IsStrictlyIncreasing places
  pub count : is_open slots stage.table ≡ true → all_count ≡ true
      → AllQualify join.choices join.query join.sets slots stage.table places

-- what a visitor keeps of a join's combinations, after those of its front
abbrev pub Keeping : Type 0 → Type 1
Keeping S = List KeyedRows → List Combination → List (List Place) → S → Type 0

-- the qualifying combinations with the chosen rows were visited, and the same rows are chosen again
pub record HasContinued {S : Type 0}
    (join : Join) (keeps : Keeping S) (chosen left : List (Option Place)) (now : Combination)
    (result : Result Onward Memory) (old new : S) : Type 0 where
  pub slots : OnOk result (left ≡ chosen)
  pub rows : OnOk result (now ≡ rows_at join.sets left)
  pub kept : Visits (Completes join.choices join.query join.sets chosen) join.in_order
      (keeps join.sets) result old new

-- the qualifying combinations with the chosen rows were visited, and the rows of all tables but one
-- are chosen as before
pub record HasWalked {S : Type 0}
    (join : Join) (keeps : Keeping S) (table : Place) (chosen before left : List (Option Place))
    (now : Combination) (result : Result Onward Memory) (old new : S) : Type 0 where
  pub slots : OnOk result (slice_set left table None ≡ slice_set before table None)
  pub stand : OnOk result (StandAt join.sets left now)
  pub kept : Visits (Completes join.choices join.query join.sets chosen) join.in_order
      (keeps join.sets) result old new
