-- The stages of a join plan: one table each, with its candidate rows given the chosen rows.
use Rattle.std.specs.Prelude.{◌≡◌, ◌<◌, Bool, true, false, ◌&&◌, not, List, length, map, slice_get, slice_set, Option, Some, IfSome}
use Rattle.std.specs.List.{All, Contains}
use Rattle.std.specs.Option.{option_map_or}
use Rattle.hippo_values.specs.declared.values.Value.{Value}
use Rattle.hippo_model.specs.declared.query.CondOf.{CondOf}
use Rattle.hippo_model.specs.declared.query.Expr.{Expr}
use Rattle.hippo_model.specs.declared.query.Masked.{Masked}
use Rattle.hippo_model.specs.declared.query.Ref.{Ref}
use Rattle.hippo_model.specs.Conditions.{is_null}
use Rattle.hippo_model.specs.Terms.{Combination, Place}
use Rattle.hippo_tables_keyed.specs.RowSets.{KeyedRows}
use Rattle.hippo_model.specs.Masking.{Choices, raw_value}
use Rattle.hippo_join_stages.specs.declared.stages.Stage.{Stage}
use Rattle.hippo_join_lookups.specs.declared.ties.Tie.{Tie}
use Rattle.hippo_join_lookups.specs.Known.{is_chosen, is_open}
use Rattle.hippo_join_lookups.specs.Places.{chosen_rows, Fits, rows_at, stands, stays}
use Rattle.hippo_join_lookups.specs.Lookups.{IsIndex, value_at_place}
use Rattle.hippo_join_lookups.specs.Ties.{AreEqual, holds}

-- the list contains the table's place in each qualifying combination
abbrev pub Reaches : Choices → Masked → List KeyedRows → Place → List Place → Type 0
Reaches choices query sets table some =
    (places : List Place) → stands choices query sets places ≡ true
    → (place : Place) → slice_get places table ≡ Some place → Contains some place

-- the list contains the table's place in each qualifying combination with the chosen rows
abbrev pub ReachesFrom :
    Choices → Masked → List KeyedRows → List (Option Place) → Place → List Place → Type 0
ReachesFrom choices query sets slots table some =
    (places : List Place) → Fits slots places → stands choices query sets places ≡ true
    → (place : Place) → slice_get places table ≡ Some place → Contains some place

-- the list contains the table's place in each qualifying combination that has a value in a column
abbrev pub ReachesWith :
    Choices → Masked → List KeyedRows → Ref → Value → Place → List Place → Type 0
ReachesWith choices query sets column value table some =
    (places : List Place) → stands choices query sets places ≡ true
    → raw_value (chosen_rows sets places) column ≡ value
    → (place : Place) → slice_get places table ≡ Some place → Contains some place

-- the rows at some places of a table have a value in a column, which is not null
abbrev pub HaveValue : List KeyedRows → Place → Place → Value → List Place → Type 0
HaveValue sets table column value some =
    (set : KeyedRows) → slice_get sets table ≡ Some set → (place : Place) → Contains some place
    → (value_at_place set column place ≡ value) × (is_null value ≡ false)

-- a part of a condition holds with the row at each of some places, whichever rows of other tables
-- are chosen
abbrev pub HoldsWithEach :
    Choices → List KeyedRows → Place → List Place → CondOf Expr → Type 0
HoldsWithEach choices sets table some part =
    (slots : List (Option Place)) → is_open slots table ≡ true
    → (set : KeyedRows) → slice_get sets table ≡ Some set → (place : Place) → Contains some place
    → holds choices (rows_at sets (slice_set slots table (Some place))) part ≡ true

-- the columns of a tie, if there is one, are equal in these rows
abbrev pub AreTied : Place → Option Tie → Combination → Type 0
AreTied table tie rows =
    IfSome tie (λ tie. AreEqual rows (record { table = table; column = tie.column }) tie.other)

-- every combination in which the tie holds qualifies
abbrev pub Suffices : Choices → Masked → Place → Option Tie → Type 0
Suffices choices query table tie =
    (rows : Combination) → AreTied table tie rows → stays choices query rows ≡ true

-- if a table has a row at a place, it qualifies with the chosen rows
abbrev pub Counts :
    Choices → Masked → List KeyedRows → List (Option Place) → Place → Place → Type 0
Counts choices query sets slots table place =
    (set : KeyedRows) → slice_get sets table ≡ Some set → place < length set.rows
    → stays choices query (rows_at sets (slice_set slots table (Some place))) ≡ true

abbrev pub AllQualify :
    Choices → Masked → List KeyedRows → List (Option Place) → Place → List Place → Type 0
AllQualify choices query sets slots table some =
    (place : Place) → Contains some place → Counts choices query sets slots table place

-- the rows at some places of a table qualify, whichever rows of other tables are chosen
abbrev pub AlwaysQualify : Choices → Masked → List KeyedRows → Place → List Place → Type 0
AlwaysQualify choices query sets table some =
    (slots : List (Option Place)) → is_open slots table ≡ true
    → AllQualify choices query sets slots table some

-- whether the tie of a stage suffices and its other row is chosen; a lookup stage uses no tie
abbrev pub suffices : Stage → List (Option Place) → Bool
suffices stage slots =
    stage.suffices
    && option_map_or (λ tie. not stage.is_searched && is_chosen slots tie.other.table) stage.tie
    true

-- a materialised stage contains all places of its table that can qualify, sorted by its tie's
-- column if it has a tie, with that column's values; `suffices` means that the tie suffices
pub record IsStage (choices : Choices) (query : Masked) (sets : List KeyedRows) (stage : Stage)
    : Type 0 where
  pub reaches : Reaches choices query sets stage.table stage.places.items
  pub tied : IfSome stage.tie (λ tie. (places : List Place)
      → stands choices query sets places ≡ true
      → AreEqual (chosen_rows sets places) (record { table = stage.table; column = tie.column })
      tie.other)
  pub ordered : IfSome stage.tie (λ tie. (set : KeyedRows) → slice_get sets stage.table ≡ Some set
      → IsIndex set tie.column stage.values.items stage.places.items)
  pub enough : stage.suffices ≡ true → Suffices choices query stage.table stage.tie

-- the materialised stages of tables in an order
pub record AreStages
    (choices : Choices) (query : Masked) (sets : List KeyedRows) (order : List Place)
    (stages : List Stage)
    : Type 0 where
  pub each : All (IsStage choices query sets) stages
  pub tables : map (λ stage. stage.table) stages ≡ order
