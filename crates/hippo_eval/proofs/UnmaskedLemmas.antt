-- The expression of an audit's operand has the operand's value over rows with every cell shown.
use Rattle.std.proofs.Common.{◌≡◌, ℕ, [], map, get_or, refl, sym, ap, ◌∙◌, Option, Some, None, option_map, unwrap_or, slice_get}
use Rattle.std.specs.Option.{option_map_or}
use Rattle.std.proofs.lemmas.Option.{slice_get-map, unwrap_or-slice_get}
use Rattle.hippo_values.specs.declared.values.Value.{Value}
use Rattle.hippo_values.specs.declared.values.Value.TheVariants.{Null}
use Rattle.hippo_model.specs.declared.born_row.BornRow.{BornRow}
use Rattle.hippo_model.specs.declared.cells.Cell.{Cell}
use Rattle.hippo_model.specs.declared.cells.Cell.TheVariants.{Shown, Denied}
use Rattle.hippo_model.specs.declared.query.Operand.{Operand}
use Rattle.hippo_model.specs.declared.query.Operand.TheVariants.{Column, Literal}
use Rattle.hippo_model.specs.Terms.{Combination, Row, ShownRow}
use Rattle.hippo_model.specs.Rows.{cell_at}
use Rattle.hippo_model.specs.Forms.{value_in}
use Rattle.hippo_model.specs.Answers.{operand_value}
use Rattle.hippo_model.specs.Masking.{Choices}
use Rattle.hippo_model.specs.MaskedTruth.{masked_value}
use Rattle.hippo_eval.specs.Unmasked.{unmasked_operand, all_shown}

abbrev shown_row : Row → ShownRow
shown_row row = map Shown row

cell_is : (row : Row) (place : ℕ) → value_in (get_or (shown_row row) place (Denied 0)) ≡ cell_at row place
cell_is row place =
    ap value_in (sym (unwrap_or-slice_get (shown_row row) place (Denied 0)) ∙ ap (λ (cell : Option Cell). unwrap_or cell (Denied 0)) (slice_get-map Shown row place))
    ∙ by (slice_get row place) ∙ unwrap_or-slice_get row place Null
  where
    by : (value : Option Value) → value_in (unwrap_or (option_map Shown value) (Denied 0)) ≡ unwrap_or value Null
    by None = refl
    by (Some value) = refl

row_is : (rows : Combination) (table : ℕ) → get_or (all_shown rows) table [] ≡ unwrap_or (option_map (λ kept. shown_row kept.row) (slice_get rows table)) []
row_is rows table =
    sym (unwrap_or-slice_get (all_shown rows) table [])
    ∙ ap (λ (row : Option ShownRow). unwrap_or row []) (slice_get-map (λ kept. shown_row kept.row) rows table)

pub value_is : (choices : Choices) (rows : Combination) (operand : Operand) → masked_value choices rows (unmasked_operand operand) ≡ operand_value (all_shown rows) operand
value_is choices rows (Literal value) = refl
value_is choices rows (Column column) = by (slice_get rows column.table) ∙ sym (ap (λ (row : ShownRow). value_in (get_or row column.column (Denied 0))) (row_is rows column.table))
  where
    by : (kept : Option BornRow) → option_map_or (λ kept. cell_at kept.row column.column) kept Null ≡ value_in (get_or (unwrap_or (option_map (λ kept. shown_row kept.row) kept) []) column.column (Denied 0))
    by None = refl
    by (Some kept) = sym (cell_is kept.row column.column)
