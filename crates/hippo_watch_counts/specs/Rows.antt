-- Whether conditions are true of a row, and how many rows of a table they find.
use Rattle.std.specs.Prelude.{ℕ, Bool, false, ◌==◌, List, length, filter, Option, if◌then◌else◌}
use Rattle.std.specs.List.{list_all}
use Rattle.std.specs.Option.{option_map_or}
use Rattle.hippo_values.specs.declared.truths.Truth.{Truth}
use Rattle.hippo_values.specs.declared.names.Name.{Name}
use Rattle.hippo_model.specs.declared.query.CondOf.{CondOf}
use Rattle.hippo_model.specs.declared.query.Operand.{Operand}
use Rattle.hippo_model.specs.declared.query.Ref.{Ref}
use Rattle.hippo_model.specs.Terms.{History, Row, Place}
use Rattle.hippo_model.specs.Conditions.{truth, is_true}
use Rattle.hippo_model.specs.Hits.{value_in_row, is_hit}
use Rattle.hippo_model.specs.Histories.{schema_at}
use Rattle.hippo_tables_keyed.specs.RowSets.{KeyedRows, kept_at}

-- the columns all belong to a table
abbrev pub are_of : Place → List Ref → Bool
are_of table columns = list_all (λ column. column.table == table) columns

abbrev pub row_truth : Row → CondOf Operand → Truth
row_truth row condition = truth (value_in_row row) condition

-- the conditions are all true of a row
abbrev pub is_found : List (CondOf Operand) → Row → Bool
is_found conditions row = list_all (λ condition. is_true (row_truth row condition)) conditions

-- the number of rows that conditions find: of one row, if there is one; below, of a table's kept
-- rows, and of a table in a history
abbrev pub hit_of : List (CondOf Operand) → Option Row → ℕ
hit_of conditions row = if option_map_or (is_found conditions) row false then 1 else 0

abbrev pub hits_among : List (CondOf Operand) → KeyedRows → ℕ
hits_among conditions set = length (filter (is_hit conditions) set.rows)

abbrev pub table_hits : History → List (CondOf Operand) → Name → ℕ
table_hits history conditions table =
    option_map_or (λ schema. hits_among conditions (kept_at schema history))
    (schema_at history table) 0
