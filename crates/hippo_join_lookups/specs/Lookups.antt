-- Temporary indexes: the rows of a table in the order of one of its columns.
use Rattle.std.specs.Prelude.{◌≡◌, Bool, true, false, ℕ, ◌<◌, ◌≤◌, List, get_or, length, map}
use Rattle.std.specs.List.{Contains}
use Rattle.std.specs.List.Sorted.{IsSortedByKey}
use Rattle.std.specs.Ordering.{is_eq, is_lt, is_le}
use Rattle.std.specs.declared.cmp.Ordering.{Ordering}
use Rattle.std.specs.declared.cmp.Ordering.TheVariants.{Equal}
use Rattle.hippo_values.specs.declared.values.Value.{Value}
use Rattle.hippo_values.specs.Order.{value_cmp}
use Rattle.hippo_model.specs.Terms.{Place}
use Rattle.hippo_tables_keyed.specs.RowSets.{KeyedRows}
pub use Rattle.hippo_tables_keyed.specs.RowSets.{value_at_place}

-- places are sorted by the values in a column
abbrev pub IsByColumn : KeyedRows → Place → List Place → Type 0
IsByColumn set column places = IsSortedByKey (value_at_place set column) value_cmp places

-- these are the values in a column at some places, in ascending order
pub record IsIndex (set : KeyedRows) (column : Place) (values : List Value) (places : List Place)
    : Type 0 where
  pub are : values ≡ map (value_at_place set column) places
  pub rise : IsByColumn set column places

-- a fact holds of each place in an index whose value equals another one
abbrev pub HoldsOfEqual : List Value → Value → (ℕ → Type 0) → Type 0
HoldsOfEqual values value holds =
    (set : KeyedRows) (column : Place) (places : List Place) → IsIndex set column values places
    → (k : ℕ) → k < length places
    → value_cmp (value_at_place set column (get_or places k 0)) value ≡ Equal → holds k

-- how the values at some places of an index, from one up to another, compare to a value
abbrev pub StandBetween : (Ordering → Bool) → Bool → List Value → Value → ℕ → ℕ → Type 0
StandBetween test truth values value start end =
    (set : KeyedRows) (column : Place) (places : List Place) → IsIndex set column values places
    → (k : ℕ) → start ≤ k → k < end → k < length places
    → test (value_cmp (value_at_place set column (get_or places k 0)) value) ≡ truth

-- from a place on, no value is below another one; up to a place, none is above it; all are equal
abbrev pub NoneBelow : List Value → Value → ℕ → Type 0
NoneBelow values value start = StandBetween is_lt false values value start (length values)

abbrev pub NoneAbove : List Value → Value → ℕ → ℕ → Type 0
NoneAbove values value start end = StandBetween is_le true values value start end

abbrev pub AllEqual : List Value → Value → ℕ → ℕ → Type 0
AllEqual values value start end = StandBetween is_eq true values value start end

-- a lookup: of places sorted by the values in a column, exactly those whose row has a value
pub record FindsEqual (places : List Place) (values : List Value) (value : Value)
    (found : List Place) : Type 0 where
  pub all : (set : KeyedRows) (column : Place) → IsIndex set column values places
      → (place : Place) → Contains places place
      → value_cmp (value_at_place set column place) value ≡ Equal → Contains found place
  pub none_else : (set : KeyedRows) (column : Place) → IsIndex set column values places
      → (place : Place) → Contains found place
      → value_cmp (value_at_place set column place) value ≡ Equal
