-- The field that is written of a value reads back as the value.
use Rattle.std.proofs.Common.{◌≡◌, ◌∙◌, ◌==◌, ◌<◌, ◌^◌, ℕ, suc, ℤ, pos, negsuc, List, [], ◌∷◌, true, false, length, Some, refl, ap, arith, rules, int_le}
use Rattle.std.specs.Fmt.{decimal, signed_decimal}
use Rattle.std.specs.Char.{is_ascii_digit}
use Rattle.std.specs.List.{list_all}
use Rattle.std.specs.Str.Parse.{digits_value, signed_digits_value}
use Rattle.std.proofs.lemmas.Bool.{and_parts}
use Rattle.std.proofs.lemmas.Bool.Decides.{nat_tests}
use Rattle.std.proofs.lemmas.Int.{ints}
use Rattle.std.proofs.lemmas.Fmt.{decimal_is_IsNumeral, digits_decimal, digits_value-decimal}
use Rattle.std.proofs.lemmas.Str.Parse.{IsNumeralModel, numerals_by_value}
use Rattle.hippo_values_text.specs.Dates.{day_text}
use Rattle.hippo_values.specs.Moments.{is_signed_number, is_day, IsDayNumber, first_day, last_day}
use Rattle.hippo_values.specs.declared.values.Value.{Value}
use Rattle.hippo_values.specs.declared.values.Value.TheVariants as values
use Rattle.hippo_lexer.specs.Cutting.{day_of}
use Rattle.hippo_lexer.proofs.DayLemmas.{day_of-day}
use Rattle.hippo_lexer.proofs.NumberLemmas.{fits-signed}
use Rattle.hippo_model.specs.declared.cells.Cell.TheVariants.{Shown}
use Rattle.hippo_model.specs.declared.schema.Column.{Column}
use Rattle.hippo_model.specs.declared.schema.ColumnKind.{ColumnKind}
use Rattle.hippo_model.specs.declared.schema.ColumnKind.TheVariants as columns
use Rattle.hippo_model.specs.Keepable.{value_is_keepable}
use Rattle.hippo_model.specs.Values.{has_kind, fits}
use Rattle.hippo_csv.specs.Records.{is_integer_text, field_value, cell_field}
use Rattle.hippo_csv.specs.Loading.{is_signed_numeral}
use Rattle.hippo_csv.specs.RecordLaws.{is_empty_text}

own : IsNumeralModel (λ ds. list_all is_ascii_digit ds ≡ true) (digits_value 10)
own = numerals_by_value (λ ds. list_all is_ascii_digit ds ≡ true) (search rules)

-- one or more digits, as a number without a sign and after a `-`
digit-signs : (byte : ℕ) → is_ascii_digit byte ≡ true → ((byte == 45) ≡ false) × ((byte == 43) ≡ false)
digit-signs byte is = (grind (arith, nat_tests), grind (arith, nat_tests))

plain-number : (digits : List ℕ) → 0 < length digits → list_all is_ascii_digit digits ≡ true
    → (is_signed_numeral digits ≡ true) × (signed_digits_value 10 digits ≡ pos (digits_value 10 digits)) × ((length digits == 0) ≡ false)
plain-number [] some are = absurd (omega arith)
plain-number (digit ∷ digits) some are =
    let signs = digit-signs digit (and_parts _ _ are).0 in
    let filled : (length (digit ∷ digits) == 0) ≡ false = grind (arith, nat_tests) in
    rw (signs.0, signs.1, filled, are) (refl, refl, refl)

negative-number : (digits : List ℕ) → 0 < length digits → list_all is_ascii_digit digits ≡ true → is_signed_numeral (45 ∷ digits) ≡ true
negative-number digits some are =
    let filled : (length digits == 0) ≡ false = grind (arith, nat_tests) in
    rw (filled, are) refl

-- the text of a number is a valid INTEGER field with the number's value
pub number-told : (number : ℤ) → is_signed_number number ≡ true
    → (is_integer_text (signed_decimal number) ≡ true) × (signed_digits_value 10 (signed_decimal number) ≡ number) × ((length (signed_decimal number) == 0) ≡ false)
number-told (pos n) range =
    let fits = fits-signed (pos n) range in
    let small : n < 2 ^ 64 = omega (arith, ints, fits.1) in
    let digits = digits_decimal own n small in
    let plain = plain-number (decimal n) (decimal_is_IsNumeral n small).0.0 digits in
    let value : signed_digits_value 10 (decimal n) ≡ pos n = plain.1 ∙ ap pos (digits_value-decimal own n small) in
    (rw (plain.0, value, range) refl, value, plain.2)
number-told (negsuc n) range =
    let fits = fits-signed (negsuc n) range in
    let small : suc n < 2 ^ 64 = omega (arith, ints, fits.0) in
    let digits = digits_decimal own (suc n) small in
    let some = (decimal_is_IsNumeral (suc n) small).0.0 in
    let value : signed_digits_value 10 (45 ∷ decimal (suc n)) ≡ negsuc n = rw (digits_value-decimal own (suc n) small) refl in
    let numeral = negative-number (decimal (suc n)) some digits in
    let filled : (length (45 ∷ decimal (suc n)) == 0) ≡ false = grind (arith, nat_tests) in
    (rw (numeral, value, range) refl, value, filled)

-- a day is written in ten bytes
day-filled : (day : ℤ) → (length (day_text day) == 0) ≡ false
unfolding day_text
day-filled day = refl

pub day-within : (day : ℤ) → is_day day ≡ true → IsDayNumber day
day-within day range =
    let parts = and_parts (int_le first_day day) (int_le day last_day) range in
    (grind (arith, ints), grind (arith, ints))

day-told : (day : ℤ) → is_day day ≡ true → day_of (day_text day) ≡ Some day
day-told day range = day_of-day (day_text day) day (day-within day range, refl)

pub value-told : (column : Column) (value : Value) → fits column value ≡ true → value_is_keepable value ≡ true
    → is_empty_text value ≡ false → field_value column.kind (cell_field (Shown value)) ≡ Some value
value-told column values.Null fit keep filled = refl
value-told column (values.Int number) fit keep filled = integer column.kind fit
  where
    integer : (kind : ColumnKind) → has_kind kind (values.Int number) ≡ true → field_value kind (cell_field (Shown (values.Int number))) ≡ Some (values.Int number)
    integer columns.Integer is = let told = number-told number keep in rw (told.2, told.0, told.1) refl
    integer columns.Text is = absurd cc
    integer columns.Date is = absurd cc
value-told column (values.Text text) fit keep filled = written column.kind (and_parts _ _ fit).0
  where
    written : (kind : ColumnKind) → has_kind kind (values.Text text) ≡ true → field_value kind text ≡ Some (values.Text text)
    written columns.Integer is = absurd cc
    written columns.Text is = rw filled refl
    written columns.Date is = absurd cc
value-told column (values.Day day) fit keep filled = dated column.kind fit
  where
    dated : (kind : ColumnKind) → has_kind kind (values.Day day) ≡ true → field_value kind (day_text day) ≡ Some (values.Day day)
    dated columns.Integer is = absurd cc
    dated columns.Text is = absurd cc
    dated columns.Date is = rw (day-filled day, day-told day keep) refl
