-- The answer of a query with the policy's rules written into it, over unmasked rows and their
-- births.
use Rattle.std.specs.Prelude.{ℕ, ℤ, int_le, Bool, true, false, not, ◌&&◌, List, map, filter, slice_get, Option, if◌then◌else◌}
use Rattle.std.specs.List.{list_all}
use Rattle.std.specs.Option.{option_map_or}
use Rattle.hippo_values.specs.declared.names.Name.{Name}
use Rattle.hippo_values.specs.declared.values.Value.{Value}
use Rattle.hippo_values.specs.declared.values.Value.TheVariants.{Null as NullValue}
use Rattle.hippo_model.specs.declared.born_row.BornRow.{BornRow}
use Rattle.hippo_model.specs.declared.cells.Cell.{Cell}
use Rattle.hippo_model.specs.declared.cells.Cell.TheVariants.{Shown, Denied}
use Rattle.hippo_model.specs.declared.entry.ItemKind.TheVariants.{OptIn, OptOut}
use Rattle.hippo_model.specs.declared.query.Expr.{Expr}
use Rattle.hippo_model.specs.declared.query.Expr.TheVariants.{Keep, Null, Aged, Case, Literal}
use Rattle.hippo_model.specs.declared.query.Masked.{Masked}
use Rattle.hippo_model.specs.declared.query.Ref.{Ref}
use Rattle.hippo_model.specs.Terms.{Combination, ShownRow}
use Rattle.hippo_model.specs.Rows.{cell_at}
use Rattle.hippo_model.specs.Verdicts.{number_in, agrees}
use Rattle.hippo_model.specs.Conditions.{truth, is_true}
use Rattle.hippo_model.specs.Forms.{value_in}
use Rattle.hippo_model.specs.Answers.{product}

-- each patient's choice on each item
abbrev pub Choices : Type 0
Choices = ℤ → Name → Option Bool

-- the value in a column of a combination of rows
abbrev pub raw_value : Combination → Ref → Value
raw_value combination column =
    option_map_or (λ kept. cell_at kept.row column.column) (slice_get combination column.table)
    NullValue

-- whether the row of a column was born after a second
abbrev pub is_younger : Combination → Ref → ℤ → Bool
is_younger combination column after =
    option_map_or (λ kept. not (int_le kept.born after)) (slice_get combination column.table) false

-- whether the patient with this number agrees to the item, by these choices; false if there is no
-- number
abbrev pub agrees_by : Choices → Option ℤ → Name → Bool → Bool
agrees_by choices subject item opt_in =
    option_map_or (λ number. agrees (if opt_in then OptIn else OptOut) (choices number item))
    subject false

abbrev pub shown_if : Bool → Value → ℕ → Cell
shown_if test value rule = if test then Shown value else Denied rule

-- the cell that an expression gives in a combination
abbrev pub masked_cell : Choices → Combination → Expr → Cell
masked_cell choices rows (Keep column) = Shown (raw_value rows column)
masked_cell choices rows (Null rule) = Denied rule
masked_cell choices rows (Aged column rule after) =
    shown_if (is_younger rows column after) (raw_value rows column) rule
masked_cell choices rows (Case column subject item rule opt_in after) =
    let agreed = agrees_by choices (number_in (raw_value rows subject)) item opt_in in
    shown_if (option_map_or (is_younger rows column) after true && agreed) (raw_value rows column)
    rule
masked_cell choices rows (Literal value) = Shown value

abbrev pub is_shown_cell : Cell → Bool
is_shown_cell (Shown value) = true
is_shown_cell (Denied rule) = false

-- whether each guard is shown in a combination
abbrev pub is_guarded : Choices → Masked → Combination → Bool
is_guarded choices query rows =
    list_all (λ guard. is_shown_cell (masked_cell choices rows guard.expr)) query.guards

-- whether the condition is true in a combination
abbrev pub masked_passes : Choices → Masked → Combination → Bool
masked_passes choices query rows =
    is_true (truth (λ expr. value_in (masked_cell choices rows expr)) query.cond)

-- the cells of a query's items in a combination
abbrev pub masked_items : Choices → Masked → Combination → ShownRow
masked_items choices query rows = map (masked_cell choices rows) query.items

-- the items of each combination whose guards are shown and whose condition is true, in the order of
-- the product
abbrev pub masked_answer : Choices → Masked → List (List BornRow) → List ShownRow
masked_answer choices query tables =
    map (masked_items choices query)
    (filter (λ rows. is_guarded choices query rows && masked_passes choices query rows)
    (product tables))
