-- Plain, distinct and grouped answers.
use Rattle.std.specs.Prelude.{not, List, [], ◌∷◌, map, filter, take, slice_index_or, if◌then◌else◌}
use Rattle.std.specs.Ordering.{is_le}
use Rattle.hippo_values.specs.declared.values.Value.{Value}
use Rattle.hippo_values.specs.declared.values.Value.TheVariants.{Null}
use Rattle.hippo_model.specs.declared.cells.Cell.{Cell}
use Rattle.hippo_model.specs.declared.cells.Cell.TheVariants.{Shown, Denied}
use Rattle.hippo_model.specs.declared.query.Form.{Form}
use Rattle.hippo_model.specs.declared.query.Form.TheVariants.{Plain, Distinct, Grouped}
use Rattle.hippo_model.specs.declared.query.Out.{Out}
use Rattle.hippo_model.specs.declared.query.Out.TheVariants.{Column, Min, Max}
use Rattle.hippo_model.specs.declared.query.Shape.{Shape}
use Rattle.hippo_model.specs.Terms.{ShownRow, Place}
use Rattle.hippo_values.specs.Order.{value_cmp}
use Rattle.hippo_model.specs.Bags.{same_row}

-- a denied cell counts as null
abbrev pub value_in : Cell → Value
value_in (Shown value) = value
value_in (Denied rule) = Null

-- the different rows, each where it first occurs
abbrev pub distinct_rows : List ShownRow → List ShownRow
distinct_rows [] = []
distinct_rows (first ∷ rest) =
    first ∷ filter (λ row. not (same_row first row)) (distinct_rows rest)

-- the lesser of two values; null is ignored unless both are null
abbrev pub lesser : Value → Value → Value
lesser Null other = other
lesser value Null = value
lesser value other = if is_le (value_cmp value other) then value else other

-- the greater of two values; null is the least value
abbrev pub greater : Value → Value → Value
greater value other = if is_le (value_cmp value other) then other else value

-- reduces a list to one value by a function of two values; null if the list is empty
abbrev pub staying_value : (Value → Value → Value) → List Value → Value
staying_value stays [] = Null
staying_value stays (first ∷ rest) = stays first (staying_value stays rest)

abbrev pub least_value : List Value → Value
least_value values = staying_value lesser values

abbrev pub greatest_value : List Value → Value
greatest_value values = staying_value greater values

-- the rows that begin with these cells
abbrev pub members : List ShownRow → ShownRow → Place → List ShownRow
members rows key keys = filter (λ row. same_row key (take keys row)) rows

abbrev pub values_in : Place → List ShownRow → List Value
values_in place rows = map (λ row. value_in (slice_index_or row place (Denied 0))) rows

-- a cell of a group's row: a cell that all members share, or the least or greatest of the members'
-- values
abbrev pub group_cell : ShownRow → List ShownRow → Out → Cell
group_cell key rows (Column place) = slice_index_or key place (Denied 0)
group_cell key rows (Min place) = Shown (least_value (values_in place rows))
group_cell key rows (Max place) = Shown (greatest_value (values_in place rows))

-- one row for each different list of first cells, where it first occurs
abbrev pub grouped_rows : Shape → List ShownRow → List ShownRow
grouped_rows shape rows =
    map (λ key. map (group_cell key (members rows key shape.keys)) shape.outs)
    (distinct_rows (map (take shape.keys) rows))

-- applies a query's form to the rows of its answer
abbrev pub rows_by_form : Form → List ShownRow → List ShownRow
rows_by_form Plain rows = rows
rows_by_form Distinct rows = distinct_rows rows
rows_by_form (Grouped shape) rows = grouped_rows shape rows
