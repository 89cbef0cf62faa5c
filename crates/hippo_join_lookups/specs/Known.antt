-- Which conditions can be tested once the rows of some tables are chosen.
use Rattle.std.specs.Prelude.{Bool, true, false, ◌&&◌, List, Option, is_some, is_none, slice_get}
use Rattle.std.specs.Option.{option_map_or}
use Rattle.std.specs.List.{list_all}
use Rattle.hippo_model.specs.declared.query.CondOf.{CondOf, CondOf-F, fold-CondOf}
use Rattle.hippo_model.specs.declared.query.CondOf.TheOpen.{All, Any, Not, Compare, Between, Among, Missing}
use Rattle.hippo_model.specs.declared.query.Expr.{Expr}
use Rattle.hippo_model.specs.declared.query.Expr.TheVariants.{Keep, Null, Aged, Case, Literal}
use Rattle.hippo_model.specs.Terms.{Place}
use Rattle.hippo_join_lookups.specs.Places.{slot_at}

-- whether a row of a table is chosen
abbrev pub is_chosen : List (Option Place) → Place → Bool
is_chosen slots table = is_some (slot_at slots table)

-- whether a table's row is not yet chosen
abbrev pub is_open : List (Option Place) → Place → Bool
is_open slots table = option_map_or is_none (slice_get slots table) false

-- whether all columns of an expression are in chosen rows
abbrev pub knows_expr : List (Option Place) → Expr → Bool
knows_expr slots (Keep column) = is_chosen slots column.table
knows_expr slots (Null rule) = true
knows_expr slots (Aged column rule after) = is_chosen slots column.table
knows_expr slots (Case column subject item rule opt_in after) =
    is_chosen slots column.table && is_chosen slots subject.table
knows_expr slots (Literal value) = true

-- whether all columns of a condition are in chosen rows, given this of each of its parts
abbrev pub knows_layer : List (Option Place) → CondOf-F Expr Bool → Bool
knows_layer slots (All parts) = list_all (λ part. part) parts
knows_layer slots (Any parts) = list_all (λ part. part) parts
knows_layer slots (Not part) = part
knows_layer slots (Compare op left right) = knows_expr slots left && knows_expr slots right
knows_layer slots (Between value low high) =
    knows_expr slots value && (knows_expr slots low && knows_expr slots high)
knows_layer slots (Among value list) = knows_expr slots value && list_all (knows_expr slots) list
knows_layer slots (Missing value) = knows_expr slots value

-- whether all columns of a condition are in chosen rows
abbrev pub knows : List (Option Place) → CondOf Expr → Bool
knows slots condition = fold-CondOf Expr Bool (knows_layer slots) condition
