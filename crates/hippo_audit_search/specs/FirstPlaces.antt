-- The first places of rows in the tables that two sides have in common.
use Rattle.std.specs.Prelude.{◌≡◌, ℕ, ◌<◌, List, [], ◌∷◌, length, map, Option, Some, None, replicate, slice_get, slice_set, ◌⊎◌}
use Rattle.std.specs.List.{All, Contains}
use Rattle.hippo_model.specs.declared.query.Masked.{Masked}
use Rattle.hippo_model.specs.Masking.{Choices}
use Rattle.hippo_tables_keyed.specs.RowSets.{KeyedRows}
use Rattle.hippo_model.specs.Terms.{Place}
use Rattle.hippo_join_stages.specs.declared.stages.Stage.{Stage}
use Rattle.hippo_join_lookups.specs.Places.{slot_at}
use Rattle.hippo_join_stages.specs.Stages.{IsStage}

-- no row is chosen in these tables; each stays open whichever rows are chosen in those before it
abbrev pub AreOpen : List Place → List (Option Place) → Type 0
AreOpen [] slots = Unit {0}
AreOpen (table ∷ tables) slots =
    (slice_get slots table ≡ Some None) × ((place : Place)
    → AreOpen tables (slice_set slots table (Some place)))

-- the places of the common tables in each side's list: no row is chosen there, and both sides have
-- the same number of them
pub record AreCommon (query_count audit_count : ℕ) (query audit : List Place) : Type 0 where
  pub query_open : AreOpen query (replicate query_count None)
  pub audit_open : AreOpen audit (replicate audit_count None)
  pub query_below : All (λ table. table < query_count) query
  pub audit_below : All (λ table. table < audit_count) audit
  pub same : length query ≡ length audit

-- two statements about the chosen rows, one for each side, are true when these places of the common
-- tables are chosen too
abbrev pub ShareAt :
    (List (Option Place) → Type 0) → (List (Option Place) → Type 0) → List Place → List Place
    → List (Option Place) → List (Option Place) → List Place → Type 0
ShareAt query_has audit_has [] [] query audit [] = query_has query × audit_has audit
ShareAt query_has audit_has [] [] query audit (place ∷ places) = ⊥
ShareAt query_has audit_has [] (other ∷ others) query audit places = ⊥
ShareAt query_has audit_has (table ∷ tables) [] query audit places = ⊥
ShareAt query_has audit_has (table ∷ tables) (other ∷ others) query audit [] = ⊥
ShareAt query_has audit_has (table ∷ tables) (other ∷ others) query audit (place ∷ places) =
    ShareAt query_has audit_has tables others (slice_set query table (Some place))
    (slice_set audit other (Some place))
    places

-- the statement is true with these places, and with no earlier ones
abbrev pub AreFirst : (List Place → Type 0) → List Place → Type 0
AreFirst holds [] = holds []
AreFirst holds (place ∷ places) =
    AreFirst (λ others. holds (place ∷ others)) places
    × ((lower : Place) → lower < place → (others : List Place) → ¬ holds (lower ∷ others))

-- the first places for which the statement is true, or `None` if there are none
abbrev pub IsFirst : (List Place → Type 0) → Option (List Place) → Type 0
IsFirst holds (Some places) = AreFirst holds places
IsFirst holds None = (places : List Place) → ¬ holds places

-- the first of some places for which the statement is true, or `None` if there are none
abbrev pub IsFirstAmong : (List Place → Type 0) → List (List Place) → Option (List Place) → Type 0
IsFirstAmong holds [] (Some places) = ⊥
IsFirstAmong holds [] None = Unit {0}
IsFirstAmong holds (first ∷ rest) (Some places) =
    ((first ≡ places) × holds first) ⊎ ((¬ holds first) × IsFirstAmong holds rest (Some places))
IsFirstAmong holds (first ∷ rest) None = (¬ holds first) × IsFirstAmong holds rest None

-- the slots with the rows of some tables chosen as well
abbrev pub with_rows : List Place → List Place → List (Option Place) → List (Option Place)
with_rows [] places slots = slots
with_rows (table ∷ tables) [] slots = slots
with_rows (table ∷ tables) (place ∷ places) slots =
    with_rows tables places (slice_set slots table (Some place))

-- these are stages of all tables
pub record AreWhole (choices : Choices) (query : Masked) (sets : List KeyedRows)
    (stages : List Stage) : Type 0 where
  pub each : All (IsStage choices query sets) stages
  pub all : (table : Place) → table < length sets
      → Contains (map (λ stage. stage.table) stages) table

-- in these tables, the places are the given ones
abbrev pub AgreeAt : List Place → List Place → List Place → Type 0
AgreeAt [] [] places = Unit {0}
AgreeAt [] (given ∷ others) places = ⊥
AgreeAt (table ∷ tables) [] places = ⊥
AgreeAt (table ∷ tables) (given ∷ others) places =
    (slice_get places table ≡ Some given) × AgreeAt tables others places

-- the slots have a chosen place in each of some tables, and these are the places
abbrev pub AreChosen : List (Option Place) → List Place → List Place → Type 0
AreChosen slots [] [] = Unit {0}
AreChosen slots [] (place ∷ places) = ⊥
AreChosen slots (table ∷ tables) [] = ⊥
AreChosen slots (table ∷ tables) (place ∷ places) =
    (slot_at slots table ≡ Some place) × AreChosen slots tables places
