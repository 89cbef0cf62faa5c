-- What is written of a row reads back as the row.
use Rattle.std.proofs.Common.{◌≡◌, ◌∙◌, ◌==◌, ℕ, zero, suc, List, [], ◌∷◌, true, false, length, map, Some, Ok, refl, ap, sym, arith}
use Rattle.std.specs.Cmp.Lexicographic.{pointwise, as_long}
use Rattle.std.specs.List.{list_all, list_any, zip}
use Rattle.std.proofs.lemmas.Bool.{and_parts, eq-eqb, or_parts}
use Rattle.std.proofs.lemmas.List.{append-nil, length-map}
use Rattle.csv.specs.Machine.{next_record}
use Rattle.csv.specs.Reading.{default_config, records, records_from}
use Rattle.csv.specs.Writing.{default_writer, row_text, read_back}
use Rattle.csv.specs.declared.parser.State.TheVariants as st
use Rattle.csv.proofs.RoundTrip.{read-write}
use Rattle.hippo_model.specs.declared.cells.Cell.TheVariants.{Shown}
use Rattle.hippo_model.specs.declared.schema.Column.{Column}
use Rattle.hippo_model.specs.Keepable.{value_is_keepable}
use Rattle.hippo_model.specs.Terms.{Row}
use Rattle.hippo_model.specs.Values.{fits}
use Rattle.hippo_csv.specs.Records.{only_member, record_fields, field_value, field_values, cell_field}
use Rattle.hippo_csv.specs.Loading.{row_of_fields}
use Rattle.hippo_csv.specs.RecordLaws.{is_empty_text, record_of_row, FieldRoundTrip}
use Rattle.hippo_csv.proofs.RecordLemmas.{first_record}
use Rattle.hippo_csv.proofs.ValueLemmas.{all-there}
use Rattle.hippo_csv.proofs.FieldTheorem.{value-told}
use Rattle.hippo_csv.proofs.MarkLemmas.{unmarked-record, value-unmarked}

-- a record that was written is the only one in its text
pub written-record : (fields : List (List ℕ)) → only_member (records default_config (row_text default_writer fields)) ≡ Some (read_back fields)
unfolding records_from next_record
written-record fields =
    let text = row_text default_writer fields in
    let read = rw (append-nil text) at (read-write fields []) in
    rw (first_record (length text) st.StartRecord text, read) (only (length text))
  where
    only : (n : ℕ) → only_member (read_back fields ∷ records_from default_config n st.StartRecord []) ≡ Some (read_back fields)
    only zero = refl
    only (suc n) = refl

-- each field has its value
fields-told : (columns : List Column) (row : Row) → pointwise fits columns row ≡ true → list_all value_is_keepable row ≡ true
    → list_any is_empty_text row ≡ false
    → map (λ (column, field). field_value column.kind field) (zip columns (map (λ value. cell_field (Shown value)) row)) ≡ map Some row
fields-told [] [] fit keep filled = refl
fields-told [] (value ∷ row) fit keep filled = absurd cc
fields-told (column ∷ columns) [] fit keep filled = refl
fields-told (column ∷ columns) (value ∷ row) fit keep filled =
    let fits_here = and_parts (fits column value) (pointwise fits columns row) fit in
    let keeps = and_parts (value_is_keepable value) (list_all value_is_keepable row) keep in
    let none = or_parts (is_empty_text value) (list_any is_empty_text row) filled in
    let first = value-told column value fits_here.0 keeps.0 none.0 in
    let later = fields-told columns row fits_here.1 keeps.1 none.1 in
    rw (first, later) refl

pub field_round_trip : FieldRoundTrip
field_round_trip schema [] extractable = absurd (omega (arith, extractable.some))
field_round_trip schema (value ∷ row) extractable =
    let fields = map (λ value. cell_field (Shown value)) (value ∷ row) in
    let unmarked = unmarked-record (cell_field (Shown value)) (map (λ value. cell_field (Shown value)) row)
    (value-unmarked value row (and_parts _ _ extractable.keepable).0 extractable.unmarked) in
    let read : record_fields (record_of_row (value ∷ row)) ≡ Some fields = rw unmarked (written-record fields) in
    let size : length fields ≡ length schema.columns =
    length-map (value ∷ row) (λ value. cell_field (Shown value)) ∙ sym (as_long fits schema.columns (value ∷ row) extractable.fits) in
    let counted : (length fields == length schema.columns) ≡ true = rw size (eq-eqb (length schema.columns) (length schema.columns) refl) in
    let told = fields-told schema.columns (value ∷ row) extractable.fits extractable.keepable extractable.filled in
    let whole : row_of_fields schema fields ≡ Ok (value ∷ row) = rw counted (all-there (field_values schema fields) (value ∷ row) told) in
    rw read (ap Some whole)
