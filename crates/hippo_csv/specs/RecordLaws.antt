-- The law that an extracted row can be loaded again.
use Rattle.std.specs.Prelude.{◌≡◌, ◌<◌, Bool, true, false, ◌==◌, ◌∷◌, map, length, Some, Ok, option_map}
use Rattle.std.specs.List.{list_all, list_any}
use Rattle.csv.specs.Reading.{is_bom}
use Rattle.csv.specs.Writing.{default_writer, row_text}
use Rattle.hippo_values.specs.Texts.{Txt}
use Rattle.hippo_values.specs.declared.values.Value.{Value}
use Rattle.hippo_values.specs.declared.values.Value.TheVariants as values
use Rattle.hippo_model.specs.declared.cells.Cell.TheVariants.{Shown}
use Rattle.hippo_model.specs.declared.schema.Schema.{Schema}
use Rattle.hippo_model.specs.Keepable.{value_is_keepable}
use Rattle.hippo_model.specs.Terms.{Row}
use Rattle.hippo_model.specs.Versions.{row_fits}
use Rattle.hippo_csv.specs.Records.{record_fields, cell_field}
use Rattle.hippo_csv.specs.Loading.{row_of_fields}

-- an empty text; its field is the same as that of NULL
abbrev pub is_empty_text : Value → Bool
is_empty_text (values.Text text) = length text == 0
is_empty_text value = false

-- a text that begins with a byte order mark, U+FEFF, which a reader drops at the beginning of a
-- record
abbrev pub begins_with_mark : Txt → Bool
begins_with_mark (a ∷ b ∷ c ∷ rest) = is_bom a b c
begins_with_mark text = false

abbrev pub first_has_mark : Row → Bool
first_has_mark (values.Text text ∷ rest) = begins_with_mark text
first_has_mark row = false

-- the record that EXTRACT writes of a row whose values are all shown
abbrev pub record_of_row : Row → Txt
record_of_row row = row_text default_writer (map (λ value. cell_field (Shown value)) row)

-- a row of a table with at least one column; each value can be stored, none is an empty text, and
-- the first does not begin with a byte order mark
pub record IsExtractable (schema : Schema) (row : Row) : Type 0 where
  pub fits : row_fits schema row ≡ true
  pub some : 0 < length row
  pub keepable : list_all value_is_keepable row ≡ true
  pub filled : list_any is_empty_text row ≡ false
  pub unmarked : first_has_mark row ≡ false

-- the record that is written of such a row reads back as the row
abbrev pub FieldRoundTrip : Type 0
FieldRoundTrip = (schema : Schema) (row : Row) → IsExtractable schema row
    → option_map (row_of_fields schema) (record_fields (record_of_row row)) ≡ Some (Ok row)
