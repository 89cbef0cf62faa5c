-- How many rows of a table match the audit's conditions on that table alone.
use Rattle.std.specs.Prelude.{ℕ, ◌==◌, Bool, List, [], filter, length, slice_index_or}
use Rattle.std.specs.List.{list_all}
use Rattle.std.specs.Option.{option_map_or}
use Rattle.hippo_values.specs.declared.values.Value.{Value}
use Rattle.hippo_model.specs.declared.audit.Audit.{Audit}
use Rattle.hippo_model.specs.declared.born_row.BornRow.{BornRow}
use Rattle.hippo_model.specs.declared.query.CondOf.{CondOf}
use Rattle.hippo_model.specs.declared.query.Operand.{Operand}
use Rattle.hippo_model.specs.declared.query.Operand.TheVariants.{Column, Literal}
use Rattle.hippo_model.specs.Terms.{History, Row, Place}
use Rattle.hippo_model.specs.Histories.{schema_at}
use Rattle.hippo_model.specs.Rows.{cell_at, table_rows}
use Rattle.hippo_model.specs.Conditions.{truth, is_true, outer_parts}
use Rattle.hippo_model.specs.Columns.{condition_columns}

-- the parts of an audit's condition whose columns all belong to this table
abbrev pub own_conditions : Audit → Place → List (CondOf Operand)
own_conditions audit table =
    filter (λ part. list_all (λ column. column.table == table) (condition_columns part))
    (outer_parts audit.cond)

abbrev pub value_in_row : Row → Operand → Value
value_in_row row (Column column) = cell_at row column.column
value_in_row row (Literal value) = value

-- whether all these conditions are true of a row
abbrev pub is_hit : List (CondOf Operand) → BornRow → Bool
is_hit conditions kept =
    list_all (λ condition. is_true (truth (value_in_row kept.row) condition)) conditions

-- the number of rows of one of an audit's tables that match the audit's conditions on that table
-- alone
abbrev pub hits : History → Audit → Place → ℕ
hits history audit table =
    option_map_or (λ schema. length (filter (is_hit (own_conditions audit table))
    (table_rows schema history)))
    (schema_at history (slice_index_or audit.tables table [])) 0
