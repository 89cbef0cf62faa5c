-- Which values of a row a query saw, and which were denied to it.
use Rattle.std.specs.Prelude.{Bool, not, ◌&&◌, List, filter_map, Option, None, Some, if◌then◌else◌}
use Rattle.std.specs.List.{list_any, enumerate_from}
use Rattle.hippo_values.specs.declared.names.Name.{Name}
use Rattle.hippo_values.specs.declared.values.Value.{Value}
use Rattle.hippo_model.specs.declared.policy.Verdict.{Verdict}
use Rattle.hippo_model.specs.declared.policy.Verdict.TheVariants.{Shown, Denied}
use Rattle.hippo_model.specs.declared.query.Query.{Query}
use Rattle.hippo_model.specs.declared.schema.Schema.{Schema}
use Rattle.hippo_model.specs.Columns.{query_columns, same_column}
use Rattle.hippo_model.specs.Rows.{cell_at}
use Rattle.hippo_model.specs.Terms.{Row, Place}
use Rattle.hippo_audit_job.specs.Naming.{is_named}
use Rattle.hippo_history_formats.specs.declared.access.SeenCell.{SeenCell}
use Rattle.hippo_history_formats.specs.declared.access.DeniedCell.{DeniedCell}
use Rattle.hippo_history_uses.specs.declared.cells.Part.{Part}
use Rattle.hippo_history_uses.specs.declared.cells.Part.TheVariants.{Answer, Conditions}

-- whether a query names a column of a table
abbrev pub names_column : Query → Name → Place → Bool
names_column query table place = list_any (same_column (table, place)) (query_columns query)

-- whether a column is in a query's select list, in an argument of MIN or MAX, or in GROUP BY
abbrev pub answers_column : Query → Name → Place → Bool
answers_column query table place = is_named (table, place) query.tables query.items

-- whether a column is in a query's conditions only
abbrev pub tests_column : Query → Name → Place → Bool
tests_column query table place =
    not (answers_column query table place) && names_column query table place

-- whether a column belongs to a part of a query
abbrev pub is_in_part : Part → Query → Name → Place → Bool
is_in_part Answer query table place = answers_column query table place
is_in_part Conditions query table place = tests_column query table place

-- a column's value, if its verdict shows it
abbrev pub seen_by : Name → Value → Verdict → Option SeenCell
seen_by column value Shown = Some (record { column = column; value = value })
seen_by column value (Denied rule) = None

-- a column and the rule that denies it, if its verdict denies it
abbrev pub denied_by : Name → Verdict → Option DeniedCell
denied_by column Shown = None
denied_by column (Denied rule) = Some (record { column = column; rule = rule })

-- the shown values of a row in the columns that pass a test, in the schema's order
abbrev pub seen_cells : (Place → Bool) → (Place → Verdict) → Schema → Row → List SeenCell
seen_cells test verdicts schema row =
    filter_map (λ (place, column). if test place
    then seen_by column.name (cell_at row place) (verdicts place) else None)
    (enumerate_from 0 schema.columns)

-- the denied columns among those that pass a test, in the schema's order
abbrev pub denied_columns : (Place → Bool) → (Place → Verdict) → Schema → List DeniedCell
denied_columns test verdicts schema =
    filter_map (λ (place, column). if test place then denied_by column.name (verdicts place)
    else None)
    (enumerate_from 0 schema.columns)
