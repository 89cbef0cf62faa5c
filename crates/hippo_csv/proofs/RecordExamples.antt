-- The definitions, computed on some records and fields.
use Rattle.std.proofs.Common.{◌≡◌, ◌∷◌, ◌++◌, [], true, false, Some, None, Ok, Err, codes, decimal, refl, pos, negsuc}
use Rattle.csv.proofs.OnLiterals.{csv_on_literals}
use Rattle.csv.specs.Writing.{escaped, fields_text, is_blank}
use Rattle.hippo_values.specs.declared.values.Value.TheVariants as values
use Rattle.hippo_model.specs.declared.cells.Cell.TheVariants.{Shown, Denied}
use Rattle.hippo_model.specs.declared.schema.Schema.{Schema}
use Rattle.hippo_model.specs.declared.schema.ColumnKind.TheVariants as columns
use Rattle.hippo_csv.specs.declared.faults.CsvFault.TheVariants as faults
use Rattle.hippo_csv.specs.Records.{record_fields, field_value, cell_field, extract_line}
use Rattle.hippo_csv.specs.Loading.{row_of_fields}

four_fields : record_fields (codes "3,\"O'Hara, Pat\",,7") ≡ Some (codes "3" ∷ codes "O'Hara, Pat" ∷ [] ∷ codes "7" ∷ [])
unfolding csv_on_literals
four_fields = refl

blanks_belong_to_a_field : record_fields (codes " 3, a ") ≡ Some (codes " 3" ∷ codes " a " ∷ [])
unfolding csv_on_literals
blanks_belong_to_a_field = refl

two_empty_fields : record_fields (codes ",") ≡ Some ([] ∷ [] ∷ [])
unfolding csv_on_literals
two_empty_fields = refl

one_empty_field : record_fields (codes "\"\"") ≡ Some ([] ∷ [])
unfolding csv_on_literals
one_empty_field = refl

no_record : record_fields [] ≡ None
unfolding csv_on_literals
no_record = refl

a_lone_line_end_is_no_record : record_fields (13 ∷ []) ≡ None
unfolding csv_on_literals
a_lone_line_end_is_no_record = refl

two_records : record_fields (codes "3,a\r4,b") ≡ None
unfolding csv_on_literals
two_records = refl

line_ends_around_a_record : record_fields (codes "\r3,a\r\r") ≡ Some (codes "3" ∷ codes "a" ∷ [])
unfolding csv_on_literals
line_ends_around_a_record = refl

a_mark_in_front_is_dropped : record_fields (239 ∷ 187 ∷ 191 ∷ codes "3") ≡ Some (codes "3" ∷ [])
unfolding csv_on_literals
a_mark_in_front_is_dropped = refl

a_lone_mark_is_no_record : record_fields (239 ∷ 187 ∷ 191 ∷ []) ≡ None
unfolding csv_on_literals
a_lone_mark_is_no_record = refl

an_open_quote_ends_with_the_text : record_fields (codes "\"a") ≡ Some (codes "a" ∷ [])
unfolding csv_on_literals
an_open_quote_ends_with_the_text = refl

zeros_in_front : field_value columns.Integer (codes "-007") ≡ Some (values.Int (negsuc 6))
zeros_in_front = refl

least_integer : field_value columns.Integer (codes "-9223372036854775808") ≡ Some (values.Int (negsuc 9223372036854775807))
least_integer = refl

too_large : field_value columns.Integer (codes "9223372036854775808") ≡ None
too_large = refl

no_plus : field_value columns.Integer (codes "+1") ≡ None
no_plus = refl

no_blank : field_value columns.Integer (codes " 3") ≡ None
no_blank = refl

a_lone_sign : field_value columns.Integer (codes "-") ≡ None
a_lone_sign = refl

an_empty_field_is_null : field_value columns.Text [] ≡ Some values.Null
an_empty_field_is_null = refl

abbrev two_columns : Schema
two_columns = record {
  name = codes "t";
  columns =
      record { name = codes "a"; kind = columns.Integer; not_null = true }
      ∷ record { name = codes "b"; kind = columns.Integer; not_null = false } ∷ [];
  key = 0 ∷ [];
  subject = None;
}

a_row : row_of_fields two_columns (codes "3" ∷ [] ∷ []) ≡ Ok (values.Int (pos 3) ∷ values.Null ∷ [])
a_row = refl

the_second_field : row_of_fields two_columns (codes "3" ∷ codes "x" ∷ []) ≡ Err (faults.Field 1)
the_second_field = refl

too_few : row_of_fields two_columns (codes "x" ∷ []) ≡ Err faults.Count
too_few = refl

quotes_where_they_are_wanted : extract_line 1 (Shown (values.Text (codes "O'Hara, Pat")) ∷ Shown values.Null ∷ Shown (values.Text (codes "Ada")) ∷ [])
    ≡ decimal 1 ++ codes " csv \"O'Hara, Pat\",,Ada\n"
unfolding escaped fields_text is_blank
quotes_where_they_are_wanted = refl

a_number_as_it_is_printed : cell_field (Shown (values.Int (negsuc 6))) ≡ codes "-" ++ decimal 7
a_number_as_it_is_printed = refl

a_denied_cell : cell_field (Denied 12) ≡ codes "DENIED(" ++ (decimal 12 ++ codes ")")
a_denied_cell = refl

one_null : extract_line 1 (Shown values.Null ∷ []) ≡ decimal 1 ++ codes " csv \"\"\n"
unfolding escaped fields_text is_blank
one_null = refl
