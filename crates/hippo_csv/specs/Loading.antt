-- The row of a table that the fields of a record make.
use Rattle.std.specs.Prelude.{◌≡◌, ◌==◌, ◌&&◌, Bool, not, List, length, filter_map, position, Option, is_none, Result, Ok, Err, if◌then◌else◌}
use Rattle.std.specs.Char.{is_ascii_digit}
use Rattle.std.specs.List.{list_all}
use Rattle.std.specs.Option.{option_map_or}
use Rattle.hippo_values.specs.Texts.{Txt}
use Rattle.hippo_values.specs.declared.values.Value.{Value}
use Rattle.hippo_model.specs.declared.schema.Schema.{Schema}
use Rattle.hippo_model.specs.Terms.{Row}
use Rattle.hippo_csv.specs.declared.faults.CsvFault.{CsvFault}
use Rattle.hippo_csv.specs.declared.faults.CsvFault.TheVariants as faults
use Rattle.hippo_csv.specs.Records.{without_sign, field_values}

-- the result of a call is this one, unless it ran out of memory
abbrev pub GivesValues : {A : Type 0} → Result A CsvFault → Result A CsvFault → Type 0
GivesValues (Ok found) right = right ≡ Ok found
GivesValues (Err faults.Count) right = right ≡ Err faults.Count
GivesValues (Err (faults.Field place)) right = right ≡ Err (faults.Field place)
GivesValues (Err faults.Memory) right = Unit {0}

-- one or more digits, with or without a `-` before them
abbrev pub is_signed_numeral : Txt → Bool
is_signed_numeral text =
    not (length (without_sign text) == 0) && list_all is_ascii_digit (without_sign text)

-- all values if none is missing; else the index of the first missing one, as a fault
abbrev pub all_values : List (Option Value) → Result Row CsvFault
all_values values =
    option_map_or (λ place. Err (faults.Field place)) (position is_none values)
    (Ok (filter_map (λ value. value) values))

-- the row of a table that the fields of a record make: a value for each column, of the column's
-- form
abbrev pub row_of_fields : Schema → List Txt → Result Row CsvFault
row_of_fields schema fields =
    if length fields == length schema.columns then all_values (field_values schema fields)
    else Err faults.Count
