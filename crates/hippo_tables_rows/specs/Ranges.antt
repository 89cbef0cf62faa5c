-- Ranges of rows in key order, by the first values of the key and the bounds on the next one.
use Rattle.std.specs.Prelude.{◌≡◌, ◌<◌, Bool, true, false, not, if◌then◌else◌, nat_lt, List, [], ◌∷◌, length, take, Option, IfSome}
use Rattle.std.specs.List.{All, Contains}
use Rattle.std.specs.Ordering.{is_lt, is_le, ordering_then}
use Rattle.std.specs.declared.cmp.Ordering.{Ordering}
use Rattle.std.specs.declared.cmp.Ordering.TheVariants.{Equal}
use Rattle.hippo_values.specs.Order.{value_cmp}
use Rattle.hippo_values.specs.Truths.{is_allowed}
use Rattle.hippo_values.specs.declared.truths.CompareOp.{CompareOp}
use Rattle.hippo_values.specs.declared.truths.CompareOp.TheVariants.{Lt, Le, Gt, Ge}
use Rattle.hippo_values.specs.declared.values.Value.{Value}
use Rattle.hippo_tables_rows.specs.declared.ranges.Bound.{Bound}
use Rattle.hippo_model.specs.Terms.{Key, Place}
use Rattle.hippo_tables_keyed.specs.RowSets.{KeyedRows, row_at_place, value_at_place}
use Rattle.hippo_model.specs.Rows.{key_of}

-- a key compared with the first values of a key: equal if it begins with them
abbrev pub front_cmp : Key → Key → Ordering
front_cmp cells [] = Equal
front_cmp [] (value ∷ front) = Equal
front_cmp (cell ∷ cells) (value ∷ front) =
    ordering_then (value_cmp cell value) (front_cmp cells front)

-- whether a row that compares this way comes before an end; with `past`, equal rows do too
abbrev pub is_low : Bool → Ordering → Bool
is_low false order = is_lt order
is_low true order = is_le order

-- whether a row comes before those whose key begins with these values; with `past`, these rows do
-- too
abbrev pub stands_low : KeyedRows → Key → Bool → Place → Bool
stands_low set front past place =
    is_low past (front_cmp (key_of set.key (row_at_place set.rows place).row) front)

-- the operators of a lower or an upper bound, strict or not
abbrev pub bounding : Bool → Bool → CompareOp
bounding above strict =
    if above then (if strict then Lt else Le) else (if strict then Gt else Ge)

-- whether values equal to a bound come before the end that it makes
abbrev pub is_past : Bool → Bool → Bool
is_past above strict = if above then not strict else strict

-- a value is within a bound, if there is one
abbrev pub KeepsBound : Bool → Option Bound → Value → Type 0
KeepsBound above bound value =
    IfSome bound (λ some. is_allowed (bounding above some.strict) (value_cmp value some.value.now)
    ≡ true)

-- the row's key begins with these values
abbrev pub HasFront : KeyedRows → Key → Place → Type 0
HasFront set front place =
    front ≡ key_of (take (length front) set.key) (row_at_place set.rows place).row

-- an end for the rows whose key begins with these values and whose next value is within a bound:
-- all of them are before it (upper bound), or none is (lower bound)
abbrev pub IsEdge : KeyedRows → Key → Place → Bool → Option Bound → Place → Type 0
IsEdge set front column above bound edge =
    (place : Place) → place < length set.rows → HasFront set front place
    → KeepsBound above bound (value_at_place set column place) → nat_lt place edge ≡ above

-- places of rows that include all rows whose value in a column is within two bounds
pub record HasAllWithin
    (set : KeyedRows) (column : Place) (low high : Option Bound) (places : List Place)
    : Type 0 where
  pub range : All (λ place. place < length set.rows) places
  pub all : (place : Place) → place < length set.rows
      → KeepsBound false low (value_at_place set column place)
      → KeepsBound true high (value_at_place set column place)
      → Contains places place
