-- The answer of a query: it selects, projects and joins over views, and then applies the query's
-- form.
use Rattle.std.specs.Prelude.{Bool, List, [], ◌∷◌, map, filter, flat_map, slice_index_or}
use Rattle.hippo_values.specs.declared.values.Value.{Value}
use Rattle.hippo_model.specs.declared.audit.Audit.{Audit}
use Rattle.hippo_model.specs.declared.cells.Cell.{Cell}
use Rattle.hippo_model.specs.declared.cells.Cell.TheVariants.{Denied}
use Rattle.hippo_model.specs.declared.query.CondOf.{CondOf}
use Rattle.hippo_model.specs.declared.query.Operand.{Operand}
use Rattle.hippo_model.specs.declared.query.Operand.TheVariants.{Column, Literal}
use Rattle.hippo_model.specs.declared.query.Query.{Query}
use Rattle.hippo_model.specs.declared.query.Ref.{Ref}
use Rattle.hippo_model.specs.Terms.{History, ShownRow}
use Rattle.hippo_model.specs.Verdicts.{Context}
use Rattle.hippo_model.specs.Views.{view_at, unmasked_at}
use Rattle.hippo_model.specs.Conditions.{truth, is_true}
use Rattle.hippo_model.specs.Forms.{value_in, rows_by_form}

-- all combinations of one member of each list; the first list varies slowest
abbrev pub product : {A : Type 0} → List (List A) → List (List A)
product [] = [] ∷ []
product (first ∷ rest) = flat_map (λ member. map (λ others. member ∷ others) (product rest)) first

-- the cell of a column in a combination of rows
abbrev pub cell_in : List ShownRow → Ref → Cell
cell_in combination column =
    slice_index_or (slice_index_or combination column.table []) column.column (Denied 0)

abbrev pub operand_value : List ShownRow → Operand → Value
operand_value combination (Column column) = value_in (cell_in combination column)
operand_value combination (Literal value) = value

abbrev pub passes : CondOf Operand → List ShownRow → Bool
passes condition combination = is_true (truth (operand_value combination) condition)

abbrev pub selected_cells : List Ref → List ShownRow → ShownRow
selected_cells items combination = map (cell_in combination) items

-- the selected cells of the combinations for which the condition is true; equal rows are all kept
abbrev pub answer_of : List Ref → CondOf Operand → List (List ShownRow) → List ShownRow
answer_of items condition combinations =
    map (selected_cells items) (filter (passes condition) combinations)

-- the answer of a query over these combinations
abbrev pub query_answer : Query → List (List ShownRow) → List ShownRow
query_answer query combinations =
    rows_by_form query.form (answer_of query.items query.cond combinations)

-- the combinations of the rows that the context may see of a query's tables
abbrev pub seen_combinations : History → Context → Query → List (List ShownRow)
seen_combinations history context query = product (map (view_at history context) query.tables)

-- a query's answer in a context, over the views of its tables
abbrev pub answer : History → Context → Query → List ShownRow
answer history context query = query_answer query (seen_combinations history context query)

-- the answer of an audit expression over these combinations
abbrev pub audit_answer : Audit → List (List ShownRow) → List ShownRow
audit_answer audit combinations = answer_of audit.columns audit.cond combinations

-- the combinations of the rows of an audit's tables, with every cell shown
abbrev pub unmasked_combinations : History → Audit → List (List ShownRow)
unmasked_combinations history audit = product (map (unmasked_at history) audit.tables)
