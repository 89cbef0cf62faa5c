-- A walk over the qualifying combinations, by their places.
use Rattle.std.specs.Prelude.{◌≡◌, Bool, true, List, ◌++◌, filter, IfOk, Option, Result}
use Rattle.hippo_values.specs.declared.memory.Memory.{Memory}
use Rattle.hippo_model.specs.declared.query.Masked.{Masked}
use Rattle.hippo_model.specs.Terms.{Combination, Place}
use Rattle.hippo_tables_keyed.specs.RowSets.{KeyedRows}
use Rattle.hippo_model.specs.Masking.{Choices}
use Rattle.hippo_eval.specs.declared.walks.Onward.{Onward}
use Rattle.hippo_eval.specs.declared.walks.Onward.TheVariants.{More, Enough}
use Rattle.hippo_join_stages.specs.Finding.{has_places, IsRising}
use Rattle.hippo_join_lookups.specs.Places.{Fits, stands, stays}

-- the qualifying combinations
abbrev pub counting : Choices → Masked → List Combination → List Combination
counting choices query combinations = filter (stays choices query) combinations

-- these places extend the chosen ones to a qualifying combination
abbrev pub Completes : Choices → Masked → List KeyedRows → List (Option Place) → List Place → Type 0
Completes choices query sets slots places =
    Fits slots places × (stands choices query sets places ≡ true)

-- the state after some more combinations, given those visited before; when a visitor has enough,
-- its state also holds for whatever follows them
abbrev pub KeptOn : {S : Type 0} → (List (List Place) → S → Type 0) → Onward
    → List (List Place) → List (List Place) → S → Type 0
KeptOn keeps More before these state = keeps (before ++ these) state
KeptOn keeps Enough before these state =
    (later : List (List Place)) → keeps (before ++ these ++ later) state

-- all combinations of a kind, in the order of the product if that is required
pub record AreAll (Is : List Place → Type 0) (in_order : Bool) (all : List (List Place))
    : Type 0 where
  pub sound : (places : List Place) → has_places places all ≡ true → Is places
  pub whole : (places : List Place) → Is places → has_places places all ≡ true
  pub rising : in_order ≡ true → IsRising all

-- a state keeps the combinations of a kind, after those visited before
pub record Visited {S : Type 0}
    (Is : List Place → Type 0) (in_order : Bool) (keeps : List (List Place) → S → Type 0)
    (onward : Onward) (before : List (List Place)) (state : S) : Type 0 where
  pub all : List (List Place)
  pub are : AreAll Is in_order all
  pub kept : KeptOn keeps onward before all state

-- if a state kept what was visited before, it now keeps the combinations of a kind after that
abbrev pub Visits : {S : Type 0} → (List Place → Type 0) → Bool
    → (List Combination → List (List Place) → S → Type 0) → Result Onward Memory → S → S → Type 0
Visits Is in_order keeps result old new =
    (front : List Combination) (before : List (List Place)) → keeps front before old
    → IfOk result (λ onward. Visited Is in_order (keeps front) onward before new)
