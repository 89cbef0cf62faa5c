-- What the equalities of columns among a condition's parts imply: what the condition asks of one
-- column, it asks of an equal one too.
use Rattle.std.specs.Prelude.{ℕ, zero, suc, ◌-◌, ◌==◌, Bool, true, false, not, ◌&&◌, List, [], ◌∷◌, ◌++◌, map, filter, take, length, Option, None, is_some, if◌then◌else◌}
use Rattle.std.specs.Bool.{then_some}
use Rattle.std.specs.List.{list_all, list_any}
use Rattle.std.specs.Option.{option_map_or, option_or}
use Rattle.hippo_values.specs.declared.truths.CompareOp.{CompareOp}
use Rattle.hippo_values.specs.declared.truths.CompareOp.TheVariants.{Eq, Ne}
use Rattle.hippo_model.specs.declared.query.CondOf.{CondOf, out-CondOf}
use Rattle.hippo_model.specs.declared.query.CondOf.TheOpen.{All, Compare, Between, Among}
use Rattle.hippo_model.specs.declared.query.CondOf.TheVariants as conditions
use Rattle.hippo_model.specs.declared.query.Expr.{Expr}
use Rattle.hippo_model.specs.declared.query.Masked.{Masked}
use Rattle.hippo_model.specs.declared.query.Ref.{Ref}
use Rattle.hippo_model.specs.Conditions.{changed_operands}
use Rattle.hippo_join_lookups.specs.Lists.{is_literal}
use Rattle.hippo_join_lookups.specs.Ties.{shown_column}

-- the most equalities that are used, and the most parts that are added
abbrev pub equality_limit : ℕ
equality_limit = 16

abbrev pub implied_limit : ℕ
implied_limit = 16

abbrev pub is_same_ref : Ref → Ref → Bool
is_same_ref column other = column.table == other.table && column.column == other.column

-- whether two expressions show the same column
abbrev pub show_same : Expr → Expr → Bool
show_same expr other =
    option_map_or (λ column. option_map_or (is_same_ref column) (shown_column other) false)
    (shown_column expr) false

-- whether a comparison is an equality of two columns
abbrev pub equates : CompareOp → Expr → Expr → Bool
equates Eq left right = is_some (shown_column left) && is_some (shown_column right)
equates op left right = false

abbrev pub is_equality : CondOf Expr → Bool
is_equality part =
    elim (out-CondOf Expr part) [ Compare op left right ↦ equates op left right | _ ↦ false ]

-- an expression, if it shows a column and the test holds
abbrev pub column_if : Bool → Expr → Option Expr
column_if test expr = then_some (test && is_some (shown_column expr)) expr

-- the side of a comparison that shows a column, if the other one is a literal; `<>` does not count
abbrev pub compared_side : CompareOp → Expr → Expr → Option Expr
compared_side Ne left right = None
compared_side op left right =
    if is_literal right then column_if true left else column_if (is_literal left) right

-- the expression of a column that a part compares with literals alone, if it does
abbrev pub compared_expr : CondOf Expr → Option Expr
compared_expr part = elim (out-CondOf Expr part) [
  | Compare op left right ↦ compared_side op left right
  | Between value low high ↦ column_if (is_literal low && is_literal high) value
  | Among value list ↦ column_if (list_all is_literal list) value
  | _ ↦ None
]

-- a part with another expression in place of those that show one column
abbrev pub moved_expr : Expr → Expr → Expr → Expr
moved_expr from other expr = if show_same from expr then other else expr

abbrev pub moved_part : Expr → Expr → CondOf Expr → CondOf Expr
moved_part from other part = changed_operands (moved_expr from other) part

-- whether one of these expressions shows the column of an expression
abbrev pub shows_reached : List Expr → Expr → Bool
shows_reached reached expr = list_any (λ own. show_same own expr) reached

-- the side of an equality that is not reached, if the other one is
abbrev pub beyond : List Expr → Expr → Expr → Option Expr
beyond reached left right =
    if shows_reached reached left then then_some (not (shows_reached reached right)) right
    else then_some (shows_reached reached right) left

abbrev pub beyond_by : List Expr → CondOf Expr → Option Expr
beyond_by reached part = elim (out-CondOf Expr part) [
  | Compare op left right ↦ if equates op left right then beyond reached left right else None
  | _ ↦ None
]

-- the first expression that an equality leads to
abbrev pub next_beyond : List (CondOf Expr) → List Expr → Option Expr
next_beyond [] reached = None
next_beyond (part ∷ equalities) reached =
    option_or (beyond_by reached part) (next_beyond equalities reached)

-- the expressions that equalities lead to, one after the other, and at most so many
abbrev pub all_beyond : ℕ → List (CondOf Expr) → List Expr → List Expr
all_beyond zero equalities reached = []
all_beyond (suc most) equalities reached =
    option_map_or (λ other. other ∷ all_beyond most equalities (reached ++ other ∷ []))
    (next_beyond equalities reached) []

-- a part that compares a column with literals, for each column that equalities lead to
abbrev pub implied_by : ℕ → List (CondOf Expr) → CondOf Expr → List (CondOf Expr)
implied_by most equalities part =
    option_map_or
    (λ from. map (λ other. moved_part from other part) (all_beyond most equalities (from ∷ [])))
    (compared_expr part) []

abbrev pub implied_from : ℕ → List (CondOf Expr) → List (CondOf Expr) → List (CondOf Expr)
implied_from most equalities [] = []
implied_from most equalities (part ∷ parts) =
    let own = implied_by most equalities part in
    own ++ implied_from (most - length own) equalities parts

-- what some parts of a condition imply
abbrev pub implied_parts : List (CondOf Expr) → List (CondOf Expr)
implied_parts parts =
    implied_from implied_limit (take equality_limit (filter is_equality parts)) parts

-- a condition and what the parts of its outermost All imply
abbrev pub with_implied : CondOf Expr → CondOf Expr
with_implied condition = elim (out-CondOf Expr condition) [
  | All parts ↦ conditions.All (parts ++ implied_parts parts)
  | _ ↦ condition
]

-- a query with what its condition implies
abbrev pub query_with_implied : Masked → Masked
query_with_implied query = record {
  items = query.items;
  tables = query.tables;
  guards = query.guards;
  cond = with_implied query.cond;
}
