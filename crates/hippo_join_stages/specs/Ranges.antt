-- The bounds that conditions put on a column.
use Rattle.std.specs.Prelude.{◌≡◌, Bool, true, false, List, Option, IfSome}
use Rattle.std.specs.List.{list_all}
use Rattle.hippo_values.specs.Order.{value_cmp}
use Rattle.hippo_values.specs.Truths.{is_allowed}
use Rattle.hippo_values.specs.declared.truths.CompareOp.{CompareOp}
use Rattle.hippo_values.specs.declared.truths.CompareOp.TheVariants.{Lt, Le, Gt, Ge}
use Rattle.hippo_values.specs.declared.values.Value.{Value}
use Rattle.hippo_model.specs.declared.query.CondOf.{CondOf}
use Rattle.hippo_model.specs.declared.query.Expr.{Expr}
use Rattle.hippo_model.specs.declared.query.Ref.{Ref}
use Rattle.hippo_tables_rows.specs.declared.ranges.Bound.{Bound}
use Rattle.hippo_model.specs.Terms.{Place}
use Rattle.hippo_tables_keyed.specs.RowSets.{KeyedRows}
use Rattle.hippo_model.specs.Conditions.{is_null}
use Rattle.hippo_model.specs.Masking.{Choices, raw_value}
pub use Rattle.hippo_tables_rows.specs.Ranges.{bounding, KeepsBound, HasFront, IsEdge}
use Rattle.hippo_join_lookups.specs.Places.{chosen_rows, Fits}
use Rattle.hippo_join_lookups.specs.Ties.{holds}

-- the operator for the same comparison with its sides swapped
abbrev pub flipped_operator : CompareOp → CompareOp
flipped_operator Lt = Gt
flipped_operator Le = Ge
flipped_operator Gt = Lt
flipped_operator Ge = Le
flipped_operator op = op

-- given the chosen rows, a column compares this way to a value, and is not null, whenever some
-- parts hold
abbrev pub IsBoundedBy :
    Choices → List KeyedRows → List (Option Place) → List (CondOf Expr) → Ref → CompareOp → Value
    → Type 0
IsBoundedBy choices sets slots parts column op value =
    (places : List Place) → Fits slots places
    → list_all (holds choices (chosen_rows sets places)) parts ≡ true
    → (is_allowed op (value_cmp (raw_value (chosen_rows sets places) column) value) ≡ true)
    × (is_null (raw_value (chosen_rows sets places) column) ≡ false)

-- given the chosen rows, a column is within the lower or upper bound, if there is one, whenever
-- some parts hold
abbrev pub GivesBound :
    Choices → List KeyedRows → List (Option Place) → List (CondOf Expr) → Ref → Bool → Option Bound
    → Type 0
GivesBound choices sets slots parts column above told =
    IfSome told (λ bound. IsBoundedBy choices sets slots parts column
    (bounding above bound.strict) bound.value.now)
