-- A query with the rules in force written into it.
use Rattle.std.specs.Prelude.{◌+◌, List, [], ◌∷◌, ◌++◌, map, Option, Some, None, slice_get}
use Rattle.std.specs.Option.{option_map_or}
use Rattle.hippo_model.specs.declared.policy.Gate.{Gate}
use Rattle.hippo_model.specs.declared.policy.Gate.TheVariants.{Always, Never, Aged, With}
use Rattle.hippo_model.specs.declared.policy.TableRules.{TableRules}
use Rattle.hippo_model.specs.declared.query.Expr.{Expr}
use Rattle.hippo_model.specs.declared.query.Expr.TheVariants.{Keep, Null, Aged as AgedColumn, Case, Literal as LiteralExpr}
use Rattle.hippo_model.specs.declared.query.Guard.{Guard}
use Rattle.hippo_model.specs.declared.query.Masked.{Masked}
use Rattle.hippo_model.specs.declared.query.Operand.{Operand}
use Rattle.hippo_model.specs.declared.query.Operand.TheVariants.{Column, Literal}
use Rattle.hippo_model.specs.declared.query.Query.{Query}
use Rattle.hippo_model.specs.declared.query.Ref.{Ref}
use Rattle.hippo_model.specs.Terms.{Place}
use Rattle.hippo_model.specs.Conditions.{changed_operands}
use Rattle.hippo_policy.specs.Gates.{gate_in}

-- the masked expression of a column, by its gate; a gate by choice denies if the table's rows are
-- about nobody
abbrev pub expr_by : Option Place → Ref → Gate → Expr
expr_by subject column Always = Keep column
expr_by subject column (Never rule) = Null rule
expr_by subject column (Aged rule after) = AgedColumn column rule after
expr_by None column (With rule item opt_in after) = Null rule
expr_by (Some place) column (With rule item opt_in after) =
    Case column (record { table = column.table; column = place }) item rule opt_in after

-- the masked expression of a column of a table with these rules
abbrev pub column_expr : TableRules → Ref → Expr
column_expr table column = expr_by table.subject column (gate_in table column.column)

-- the masked expression of a column of a query's tables; a column of no table is never shown
abbrev pub masked_column : List TableRules → Ref → Expr
masked_column rules column =
    option_map_or (λ table. column_expr table column) (slice_get rules column.table) (Null 0)

abbrev pub masked_operand : List TableRules → Operand → Expr
masked_operand rules (Column column) = masked_column rules column
masked_operand rules (Literal value) = LiteralExpr value

-- the guard of a key column of the table at a place in FROM
abbrev pub key_guard : Place → TableRules → Place → Guard
key_guard place table column =
    record { table = place; expr = column_expr table (record { table = place; column = column }) }

abbrev pub table_guards : Place → TableRules → List Guard
table_guards place table = map (key_guard place table) table.key

-- the guards of the tables from a place on
abbrev pub guards_from : Place → List TableRules → List Guard
guards_from place [] = []
guards_from place (table ∷ rules) = table_guards place table ++ guards_from (place + 1) rules

-- the query with the rules written into it: each column is replaced as its gate says, and each key
-- cell is guarded
abbrev pub rewritten_query : List TableRules → Query → Masked
rewritten_query rules query = record {
  items = map (masked_column rules) query.items;
  tables = query.tables;
  guards = guards_from 0 rules;
  cond = changed_operands (masked_operand rules) query.cond;
}
