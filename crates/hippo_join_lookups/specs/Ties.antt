-- Join equalities: equalities between columns of two tables.
use Rattle.std.specs.Prelude.{◌≡◌, Bool, true, false, List, Option, Some, None}
use Rattle.std.specs.List.{list_all}
use Rattle.hippo_model.specs.declared.query.CondOf.{CondOf}
use Rattle.hippo_model.specs.declared.query.Expr.{Expr}
use Rattle.hippo_model.specs.declared.query.Expr.TheVariants.{Keep, Null, Aged, Case, Literal}
use Rattle.hippo_model.specs.declared.query.Ref.{Ref}
use Rattle.hippo_model.specs.Terms.{Combination, Place}
use Rattle.hippo_model.specs.Conditions.{is_true, is_null}
use Rattle.hippo_model.specs.Masking.{Choices, raw_value}
use Rattle.hippo_model.specs.MaskedTruth.{masked_truth}
use Rattle.hippo_join_lookups.specs.declared.ties.Tie.{Tie}

-- the column whose value an expression shows, if it shows one
abbrev pub shown_column : Expr → Option Ref
shown_column (Keep column) = Some column
shown_column (Null rule) = None
shown_column (Aged column rule after) = Some column
shown_column (Case column subject item rule opt_in after) = Some column
shown_column (Literal value) = None

-- whether a condition is true of some rows
abbrev pub holds : Choices → Combination → CondOf Expr → Bool
holds choices rows condition = is_true (masked_truth choices rows condition)

-- two columns have the same value, which is not null
abbrev pub AreEqual : Combination → Ref → Ref → Type 0
AreEqual rows column other =
    (raw_value rows column ≡ raw_value rows other) × (is_null (raw_value rows other) ≡ false)

-- when all parts hold, the two columns of a tie are equal
abbrev pub IsTieOf : List (CondOf Expr) → Place → Tie → Type 0
IsTieOf parts table tie =
    (choices : Choices) (rows : Combination) → list_all (holds choices rows) parts ≡ true
    → AreEqual rows (record { table = table; column = tie.column }) tie.other
