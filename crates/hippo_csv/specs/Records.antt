-- Rows as CSV records (RFC 4180), for loading and extracting.
use Rattle.std.specs.Prelude.{ℕ, ◌==◌, ◌++◌, ◌&&◌, Bool, not, List, [], ◌∷◌, map, length, drop, slice_index, Option, Some, None, option_map, codes, decimal, if◌then◌else◌}
use Rattle.std.specs.List.{list_all, zip}
use Rattle.std.specs.Char.{is_ascii_digit}
use Rattle.std.specs.Str.Parse.{signed_digits_value}
use Rattle.std.specs.Bool.{then_some}
use Rattle.csv.specs.Reading.{default_config, strip_bom, records}
use Rattle.csv.specs.Writing.{default_writer, row_text}
use Rattle.hippo_values.specs.Texts.{Txt}
use Rattle.hippo_values.specs.Moments.{is_signed_number}
use Rattle.hippo_values.specs.declared.values.Value.{Value}
use Rattle.hippo_values.specs.declared.values.Value.TheVariants as values
use Rattle.hippo_lexer.specs.Cutting.{day_of}
use Rattle.hippo_model.specs.declared.cells.Cell.{Cell}
use Rattle.hippo_model.specs.declared.cells.Cell.TheVariants.{Shown}
use Rattle.hippo_model.specs.declared.schema.ColumnKind.{ColumnKind}
use Rattle.hippo_model.specs.declared.schema.ColumnKind.TheVariants as columns
use Rattle.hippo_model.specs.declared.schema.Schema.{Schema}
use Rattle.hippo_model.specs.Terms.{ShownRow}
use Rattle.hippo_report.specs.Cells.{cell_text}

-- the member of a list that has exactly one
abbrev pub only_member : {A : Type 0} → List A → Option A
only_member (member ∷ []) = Some member
only_member members = None

-- the fields of a text that is exactly one record
abbrev pub record_fields : Txt → Option (List Txt)
record_fields text = only_member (records default_config (strip_bom text))

-- the text without a `-` at its front
abbrev pub without_sign : Txt → Txt
without_sign text = if slice_index text 0 == 45 then drop 1 text else text

abbrev pub is_integer_text : Txt → Bool
is_integer_text text =
    not (length (without_sign text) == 0) && list_all is_ascii_digit (without_sign text)
    && is_signed_number (signed_digits_value 10 text)

-- the value of a non-empty field for a column of this kind, if the field has the kind's form;
-- `field_value` reads an empty field as NULL
abbrev pub filled_value : ColumnKind → Txt → Option Value
filled_value columns.Integer text =
    then_some (is_integer_text text) (values.Int (signed_digits_value 10 text))
filled_value columns.Text text = Some (values.Text text)
filled_value columns.Date text = option_map values.Day (day_of text)

abbrev pub field_value : ColumnKind → Txt → Option Value
field_value kind text = if length text == 0 then Some values.Null else filled_value kind text

-- the values of a record's fields; a field that does not have its column's form has none
abbrev pub field_values : Schema → List Txt → List (Option Value)
field_values schema fields =
    map (λ (column, field). field_value column.kind field) (zip schema.columns fields)

-- a cell as a field of a record
abbrev pub cell_field : Cell → Txt
cell_field (Shown values.Null) = []
cell_field (Shown (values.Text text)) = text
cell_field cell = cell_text cell

-- one row of an answer as a record
abbrev pub extract_line : ℕ → ShownRow → Txt
extract_line session row =
    decimal session ++ (codes " csv " ++ row_text default_writer (map cell_field row))
