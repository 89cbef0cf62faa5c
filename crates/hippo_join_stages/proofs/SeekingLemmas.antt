-- Lookup of rows by a column that their table is ordered by.
use Rattle.std.proofs.Common.{◌≡◌, ◌<◌, true, false, List, length, sym, subst, Option, Some, None}
use Rattle.std.specs.Prelude.{slice_get, replicate, IfOk, IfSome, Result}
use Rattle.std.specs.List.{Contains}
use Rattle.std.proofs.lemmas.Option.{IfSome_then}
use Rattle.hippo_values.specs.declared.values.Value.{Value}
use Rattle.hippo_model.specs.declared.query.Expr.{Expr}
use Rattle.hippo_model.specs.declared.query.Expr.TheVariants.{Literal}
use Rattle.hippo_model.specs.declared.query.Masked.{Masked}
use Rattle.hippo_tables_rows.specs.declared.ranges.Bound.{Bound}
use Rattle.hippo_model.specs.Terms.{Place}
use Rattle.hippo_tables_keyed.specs.RowSets.{KeyedRows}
use Rattle.hippo_model.specs.Conditions.{outer_parts}
use Rattle.hippo_model.specs.Masking.{Choices}
use Rattle.hippo_join_lookups.specs.Places.{chosen_rows, Fits}
use Rattle.hippo_join_lookups.specs.Lookups.{value_at_place}
use Rattle.hippo_join_lookups.specs.Lists.{IsListedBy}
use Rattle.hippo_join_stages.specs.Ranges.{bounding, IsBoundedBy, KeepsBound}
use Rattle.hippo_join_stages.specs.Stages.{Reaches, ReachesFrom}
use Rattle.hippo_join_lookups.proofs.PlaceSteps.{ok-then}
use Rattle.hippo_join_lookups.proofs.PruneLemmas.{below-rows, in-range, all-hold, long-enough}
use Rattle.hippo_join_stages.proofs.RangeLemmas.{keeps}
use Rattle.hippo_join_lookups.proofs.SlotLemmas.{Fits-open, raw-at}

-- a result that, if there is one, satisfies another fact
pub found-then : {T E : Type 0} (P Q : T → Type 0) (r : Result (Option T) E) → ((x : T) → P x → Q x) → IfOk r (λ found. IfSome found P) → IfOk r (λ found. IfSome found Q)
found-then P Q r then holds = ok-then (λ found. IfSome found P) (λ found. IfSome found Q) r holds (λ found has. IfSome_then found has then)

module _ (choices : Choices) (query : Masked) (sets : List KeyedRows) where
  module _ (slots : List (Option Place)) (table column : Place) (set : KeyedRows) (some : List Place) (at_set : slice_get sets table ≡ Some set) where
    -- each qualifying place has a value within the given bounds
    pub found-bounded : (low : Bound) (high : Option Bound) → IsBoundedBy choices sets slots (outer_parts query.cond) (record { table = table; column = column }) (bounding false low.strict) low.value.now
        → IfSome high (λ bound. IsBoundedBy choices sets slots (outer_parts query.cond) (record { table = table; column = column }) (bounding true bound.strict) bound.value.now)
        → ((place : Place) → place < length set.rows → KeepsBound false (Some low) (value_at_place set column place) → KeepsBound true high (value_at_place set column place) → Contains some place)
        → ReachesFrom choices query sets slots table some
    found-bounded low high of_low of_high all places fits counts place at =
        all place (below-rows sets places table set place (in-range choices query sets places counts) at_set at)
        (keeps choices sets slots query table set column false (Some low) at_set of_low places fits counts place at) (keeps choices sets slots query table set column true high at_set of_high places fits counts place at)

    -- each qualifying place has a value of the given list
    pub found-listed : (list : List Expr) → IsListedBy (outer_parts query.cond) (record { table = table; column = column }) list
        → ((place : Place) → place < length set.rows → Contains list (Literal (value_at_place set column place)) → Contains some place)
        → ReachesFrom choices query sets slots table some
    found-listed list listed all places fits counts place at =
        all place (below-rows sets places table set place (in-range choices query sets places counts) at_set at)
        (subst (λ (v : Value). Contains list (Literal v)) (raw-at sets places (record { table = table; column = column }) set place at_set at) (listed choices (chosen_rows sets places) (all-hold choices query sets places counts)))

  -- when no row is chosen
  pub reaches-open : (slots : List (Option Place)) (table : Place) (some : List Place) → slots ≡ replicate (length sets) None → ReachesFrom choices query sets slots table some → Reaches choices query sets table some
  reaches-open slots table some none reaches places counts place at =
      reaches places (subst (λ (s : List (Option Place)). Fits s places) (sym none) (Fits-open places (length sets) (long-enough choices query sets places counts))) counts place at
