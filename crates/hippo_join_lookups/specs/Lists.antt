-- Lists of literals that restrict a column.
use Rattle.std.specs.Prelude.{◌≡◌, Bool, true, false, List}
use Rattle.std.specs.List.{list_all, Contains}
use Rattle.hippo_model.specs.declared.query.CondOf.{CondOf}
use Rattle.hippo_model.specs.declared.query.Expr.{Expr}
use Rattle.hippo_model.specs.declared.query.Expr.TheVariants.{Literal}
use Rattle.hippo_model.specs.declared.query.Ref.{Ref}
use Rattle.hippo_model.specs.Terms.{Combination}
use Rattle.hippo_model.specs.Masking.{Choices, raw_value}
use Rattle.hippo_join_lookups.specs.Ties.{holds}

abbrev pub is_literal : Expr → Bool
is_literal (Literal value) = true
is_literal expr = false

-- when all parts hold, the column's value is in the list
abbrev pub IsListedBy : List (CondOf Expr) → Ref → List Expr → Type 0
IsListedBy parts column list =
    (choices : Choices) (rows : Combination) → list_all (holds choices rows) parts ≡ true
    → Contains list (Literal (raw_value rows column))
