-- What a purpose and recipient see of a table: forbidden cells are denied, and rows with a
-- forbidden key cell are left out (table semantics of LeFevre and others, Limiting Disclosure in
-- Hippocratic Databases, VLDB 2004).
use Rattle.std.specs.Prelude.{Bool, true, false, List, [], map, filter_map, Option}
use Rattle.std.specs.Bool.{then_some}
use Rattle.std.specs.List.{list_all, enumerate_from}
use Rattle.std.specs.Option.{option_map_or}
use Rattle.hippo_values.specs.declared.names.Name.{Name}
use Rattle.hippo_values.specs.declared.values.Value.{Value}
use Rattle.hippo_model.specs.declared.born_row.BornRow.{BornRow}
use Rattle.hippo_model.specs.declared.cells.Cell.{Cell}
use Rattle.hippo_model.specs.declared.cells.Cell.TheVariants.{Shown as ShownCell, Denied as DeniedCell}
use Rattle.hippo_model.specs.declared.schema.Schema.{Schema}
use Rattle.hippo_model.specs.declared.policy.Verdict.{Verdict}
use Rattle.hippo_model.specs.declared.policy.Verdict.TheVariants.{Shown, Denied}
use Rattle.hippo_model.specs.Terms.{History, Row, ShownRow, Place}
use Rattle.hippo_model.specs.Histories.{schema_at}
use Rattle.hippo_model.specs.Rows.{table_rows}
use Rattle.hippo_model.specs.Verdicts.{Context, verdict}

abbrev pub is_shown : Verdict → Bool
is_shown Shown = true
is_shown (Denied rule) = false

abbrev pub cell_by : Verdict → Value → Cell
cell_by Shown value = ShownCell value
cell_by (Denied rule) value = DeniedCell rule

-- a row with each cell shown or denied by its verdict
abbrev pub masked_row : (Place → Verdict) → Row → ShownRow
masked_row verdicts row =
    map (λ (place, value). cell_by (verdicts place) value) (enumerate_from 0 row)

-- a row is in the view if each cell of its key is shown
abbrev pub view_row : History → Context → Schema → BornRow → Option ShownRow
view_row history context schema kept =
    let verdicts = verdict history context schema kept in
    then_some (list_all (λ place. is_shown (verdicts place)) schema.key)
    (masked_row verdicts kept.row)

-- the view of a table, in the order of its rows
abbrev pub view : History → Context → Schema → List ShownRow
view history context schema =
    filter_map (view_row history context schema) (table_rows schema history)

-- the view of a table, by the table's name; empty if the table does not exist
abbrev pub view_at : History → Context → Name → List ShownRow
view_at history context table = option_map_or (view history context) (schema_at history table) []

-- the rows of a table, by the table's name, with every cell shown
abbrev pub unmasked_at : History → Name → List ShownRow
unmasked_at history table =
    option_map_or (λ schema. map (λ kept. map ShownCell kept.row) (table_rows schema history))
    (schema_at history table) []
