-- A record's text begins with no byte order mark if its first field does not.
use Rattle.std.proofs.Common.{◌≡◌, ◌==◌, ◌<◌, ℕ, suc, ℤ, pos, negsuc, List, [], ◌∷◌, ◌++◌, true, false, length, refl, append_assoc, inl, inr, arith}
use Rattle.std.specs.List.{list_any}
use Rattle.std.proofs.lemmas.List.{append-nil}
use Rattle.std.proofs.lemmas.Bool.{cases_Bool, ne_eqb}
use Rattle.csv.specs.Reading.{strip_bom, is_bom}
use Rattle.csv.specs.Writing.{default_writer, field_text, fields_text, is_blank, row_text, needs_byte}
use Rattle.std.specs.Fmt.{decimal, signed_decimal}
use Rattle.std.specs.Str.{IsAscii}
use Rattle.std.proofs.lemmas.Bool.Decides.{nat_tests}
use Rattle.std.proofs.lemmas.Fmt.{IsAscii-decimal}
use Rattle.std.proofs.lemmas.Int.{ints}
use Rattle.hippo_values_text.specs.Dates.{day_text}
use Rattle.hippo_values.specs.Moments.{is_signed_number, IsDayNumber}
use Rattle.hippo_values.specs.declared.values.Value.{Value}
use Rattle.hippo_values.specs.declared.values.Value.TheVariants as values
use Rattle.hippo_values_text.proofs.DateTextLemmas.{date_text-of_day, IsAscii-date_text}
use Rattle.hippo_lexer.proofs.NumberLemmas.{fits-signed}
use Rattle.hippo_model.specs.declared.cells.Cell.TheVariants.{Shown}
use Rattle.hippo_model.specs.Keepable.{value_is_keepable}
use Rattle.hippo_model.specs.Terms.{Row}
use Rattle.hippo_csv.specs.Records.{cell_field}
use Rattle.hippo_csv.specs.RecordLaws.{begins_with_mark, first_has_mark}
use Rattle.hippo_csv.proofs.FieldTheorem.{day-within}

-- other first, second or third bytes are not a mark
other-first : (a : ℕ) (rest : List ℕ) → (a == 239) ≡ false → strip_bom (a ∷ rest) ≡ a ∷ rest
unfolding strip_bom
other-first a [] other = refl
other-first a (b ∷ []) other = refl
other-first a (b ∷ c ∷ rest) other = rw other refl

other-second : (a b : ℕ) (rest : List ℕ) → (b == 187) ≡ false → strip_bom (a ∷ b ∷ rest) ≡ a ∷ b ∷ rest
unfolding strip_bom
other-second a b [] other = refl
other-second a b (c ∷ rest) other = elim (cases_Bool (a == 239)) [ inl is ↦ rw (is, other) refl | inr not ↦ rw not refl ]

other-third : (a b c : ℕ) (rest : List ℕ) → is_bom a b c ≡ false → strip_bom (a ∷ b ∷ c ∷ rest) ≡ a ∷ b ∷ c ∷ rest
unfolding strip_bom
other-third a b c rest other = rw other refl

-- a short field, followed by a byte that no mark has, is not a mark
no-bom-third : (a b c : ℕ) → (c == 191) ≡ false → is_bom a b c ≡ false
no-bom-third a b c other = elim (cases_Bool (a == 239)) [
  | inl is ↦ elim (cases_Bool (b == 187)) [ inl too ↦ rw (is, too, other) refl | inr not ↦ rw (is, not) refl ]
  | inr not ↦ rw not refl
]

-- a field that does not begin with a mark, followed by a byte that no mark has
remaining-field : (field rest : List ℕ) (next : ℕ) → (next == 239) ≡ false → (next == 187) ≡ false → (next == 191) ≡ false
    → begins_with_mark field ≡ false → strip_bom (field ++ next ∷ rest) ≡ field ++ next ∷ rest
remaining-field [] rest next first second third none = other-first next rest first
remaining-field (a ∷ []) rest next first second third none = other-second a next rest second
remaining-field (a ∷ b ∷ []) rest next first second third none = other-third a b next rest (no-bom-third a b next third)
remaining-field (a ∷ b ∷ c ∷ more) rest next first second third none = other-third a b c (more ++ next ∷ rest) none

not-blank : (n : ℕ) → (suc n == 0) ≡ false
not-blank n = ne_eqb (suc n) 0 (λ z. cc z)

-- a record whose first field needs no quotes
plain-record : (field : List ℕ) (rest : List (List ℕ)) → list_any (needs_byte default_writer) field ≡ false
    → begins_with_mark field ≡ false → strip_bom (row_text default_writer (field ∷ rest)) ≡ row_text default_writer (field ∷ rest)
unfolding is_blank fields_text
plain-record [] [] plain none = other-first 34 (34 ∷ 10 ∷ []) refl
plain-record (byte ∷ bytes) [] plain none =
    rw (plain, not-blank (length bytes), append-nil bytes) (remaining-field (byte ∷ bytes) [] 10 refl refl refl none)
plain-record field (next ∷ more) plain none =
    let text = append_assoc field (44 ∷ field_text default_writer next ++ fields_text default_writer more) (10 ∷ []) in
    rw (plain, text) (remaining-field field _ 44 refl refl refl none)

-- a record whose first field does not begin with a mark has no mark at its front
pub unmarked-record : (field : List ℕ) (rest : List (List ℕ)) → begins_with_mark field ≡ false
    → strip_bom (row_text default_writer (field ∷ rest)) ≡ row_text default_writer (field ∷ rest)
unmarked-record field rest none = elim (cases_Bool (list_any (needs_byte default_writer) field)) [
  | inl needs ↦ rw needs (other-first 34 _ refl)
  | inr plain ↦ plain-record field rest plain none
]

-- an ASCII text does not begin with a mark, nor does one with another first byte
first-unmarked : (a : ℕ) (rest : List ℕ) → (a == 239) ≡ false → begins_with_mark (a ∷ rest) ≡ false
first-unmarked a [] other = refl
first-unmarked a (b ∷ []) other = refl
first-unmarked a (b ∷ c ∷ rest) other = rw other refl

ascii-unmarked : (text : List ℕ) → IsAscii text → begins_with_mark text ≡ false
ascii-unmarked [] ascii = refl
ascii-unmarked (a ∷ rest) ascii =
    let low : a < 128 = ascii 0 in
    first-unmarked a rest (grind (arith, nat_tests))

number-unmarked : (number : ℤ) → is_signed_number number ≡ true → begins_with_mark (signed_decimal number) ≡ false
number-unmarked (pos n) range =
    let fits = fits-signed (pos n) range in
    ascii-unmarked (decimal n) (IsAscii-decimal n (omega (arith, ints, fits.1)))
number-unmarked (negsuc n) range = first-unmarked 45 (decimal (suc n)) refl

day-unmarked : (day : ℤ) → IsDayNumber day → begins_with_mark (day_text day) ≡ false
day-unmarked day range =
    let dated = date_text-of_day (day_text day) day (range, refl) in
    ascii-unmarked (day_text day) (IsAscii-date_text (day_text day) _ _ _ dated.0 dated.1)

-- the first field does not begin with a mark unless the first value is a text that does
pub value-unmarked : (value : Value) (row : Row) → value_is_keepable value ≡ true → first_has_mark (value ∷ row) ≡ false
    → begins_with_mark (cell_field (Shown value)) ≡ false
value-unmarked values.Null row keep none = refl
value-unmarked (values.Int number) row keep none = number-unmarked number keep
value-unmarked (values.Text text) row keep none = none
value-unmarked (values.Day day) row keep none = day-unmarked day (day-within day keep)
