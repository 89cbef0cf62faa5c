-- What a condition implies, computed on small conditions. Each example's name says what it shows.
use Rattle.std.proofs.Common.{◌≡◌, ℕ, pos, false, List, [], ◌∷◌, ◌++◌, sym, ap, ◌∙◌, None}
use Rattle.std.specs.Prelude.{◌&&◌, if◌then◌else◌}
use Rattle.std.specs.List.{list_all}
use Rattle.hippo_values.specs.declared.values.Value.TheVariants.{Int}
use Rattle.hippo_values.specs.declared.truths.CompareOp.{CompareOp}
use Rattle.hippo_values.specs.declared.truths.CompareOp.TheVariants.{Eq, Ne, Lt}
use Rattle.hippo_model.specs.declared.query.CondOf.{CondOf, CondOf-F, out-CondOf, out-roll-CondOf, roll-CondOf}
use Rattle.hippo_model.specs.declared.query.CondOf.TheVariants.{All, Compare, Between, Among, rolls-All, rolls-Compare, rolls-Between, rolls-Among}
use Rattle.hippo_model.specs.declared.query.CondOf.TheOpen as open_
use Rattle.hippo_model.specs.declared.query.Expr.{Expr}
use Rattle.hippo_model.specs.declared.query.Expr.TheVariants.{Keep, Literal}
use Rattle.hippo_model.proofs.FoldedConditions.{folded_conditions}
use Rattle.hippo_join_lookups.specs.Lists.{is_literal}
use Rattle.hippo_join_implied.specs.Implied.{equates, is_equality, column_if, compared_side, compared_expr, beyond, beyond_by, implied_parts, with_implied}

opened : (layer : CondOf-F Expr (CondOf Expr)) (condition : CondOf Expr) → roll-CondOf Expr layer ≡ condition → out-CondOf Expr condition ≡ layer
opened layer condition made = ap (out-CondOf Expr) (sym made) ∙ out-roll-CondOf Expr layer

out-Compare : (op : CompareOp) (left right : Expr) → out-CondOf Expr (Compare op left right) ≡ open_.Compare op left right
out-Compare op left right = opened (open_.Compare op left right) (Compare op left right) (rolls-Compare op left right)

out-Between : (operand low high : Expr) → out-CondOf Expr (Between operand low high) ≡ open_.Between operand low high
out-Between operand low high = opened (open_.Between operand low high) (Between operand low high) (rolls-Between operand low high)

out-Among : (operand : Expr) (list : List Expr) → out-CondOf Expr (Among operand list) ≡ open_.Among operand list
out-Among operand list = opened (open_.Among operand list) (Among operand list) (rolls-Among operand list)

with_implied-All : (parts : List (CondOf Expr)) → with_implied (All parts) ≡ All (parts ++ implied_parts parts)
with_implied-All parts = rw (opened (open_.All parts) (All parts) (rolls-All parts), with_implied)

is_equality-Compare : (op : CompareOp) (left right : Expr) → is_equality (Compare op left right) ≡ equates op left right
is_equality-Compare op left right = rw (out-Compare op left right, is_equality)

is_equality-Between : (operand low high : Expr) → is_equality (Between operand low high) ≡ false
is_equality-Between operand low high = rw (out-Between operand low high, is_equality)

is_equality-Among : (operand : Expr) (list : List Expr) → is_equality (Among operand list) ≡ false
is_equality-Among operand list = rw (out-Among operand list, is_equality)

compared_expr-Compare : (op : CompareOp) (left right : Expr) → compared_expr (Compare op left right) ≡ compared_side op left right
compared_expr-Compare op left right = rw (out-Compare op left right, compared_expr)

compared_expr-Between : (operand low high : Expr) → compared_expr (Between operand low high) ≡ column_if (is_literal low && is_literal high) operand
compared_expr-Between operand low high = rw (out-Between operand low high, compared_expr)

compared_expr-Among : (operand : Expr) (list : List Expr) → compared_expr (Among operand list) ≡ column_if (list_all is_literal list) operand
compared_expr-Among operand list = rw (out-Among operand list, compared_expr)

beyond_by-Compare : (reached : List Expr) (op : CompareOp) (left right : Expr) → beyond_by reached (Compare op left right) ≡ (if equates op left right then beyond reached left right else None)
beyond_by-Compare reached op left right = rw (out-Compare op left right, beyond_by)

ruleset implied_conditions = (with_implied-All, is_equality-Compare, is_equality-Between, is_equality-Among, compared_expr-Compare, compared_expr-Between, compared_expr-Among, beyond_by-Compare)

-- a column of one of three tables, and a number
abbrev column : ℕ → ℕ → Expr
column table place = Keep (record { table = table; column = place })

abbrev number : ℕ → Expr
number n = Literal (Int (pos n))

abbrev equal : Expr → Expr → CondOf Expr
equal left right = Compare Eq left right

a_bound_holds_for_the_equal_column : with_implied (All (equal (column 0 0) (column 1 0) ∷ Between (column 1 0) (number 1) (number 5) ∷ []))
    ≡ All (equal (column 0 0) (column 1 0) ∷ Between (column 1 0) (number 1) (number 5) ∷ Between (column 0 0) (number 1) (number 5) ∷ [])
a_bound_holds_for_the_equal_column = simp (implied_conditions, folded_conditions)

equalities_form_chains : with_implied (All (equal (column 1 0) (column 2 0) ∷ equal (column 0 0) (column 1 0) ∷ Compare Lt (number 3) (column 0 0) ∷ []))
    ≡ All (equal (column 1 0) (column 2 0) ∷ equal (column 0 0) (column 1 0) ∷ Compare Lt (number 3) (column 0 0) ∷ Compare Lt (number 3) (column 1 0) ∷ Compare Lt (number 3) (column 2 0) ∷ [])
equalities_form_chains = simp (implied_conditions, folded_conditions)

an_inequality_is_not_carried_over : with_implied (All (equal (column 0 0) (column 1 0) ∷ Compare Ne (column 1 0) (number 5) ∷ []))
    ≡ All (equal (column 0 0) (column 1 0) ∷ Compare Ne (column 1 0) (number 5) ∷ [])
an_inequality_is_not_carried_over = simp (implied_conditions, folded_conditions)
