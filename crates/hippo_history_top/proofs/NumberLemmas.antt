-- The number of an entry or of a patient that a word writes, by what the parser of numbers answers.
use Rattle.std.proofs.Common.{◌≡◌, ◌≢◌, ◌∙◌, ℕ, ◌<◌, ◌≤◌, ◌^◌, Bool, true, false, ◌&&◌, Option, Some, None, Result, Ok, Err, refl, sym, ap, subst, arith, w64, ℤ, ◌≤ℤ◌, FitsSigned}
use Rattle.std.specs.Prelude.{nat_le}
use Rattle.std.specs.Bool.{then_some}
use Rattle.std.specs.Result.{result_ok}
use Rattle.std.specs.Str.Parse.{IsNumeral, ParsesSigned, digits_value, signed_digits_value, without_leading_plus, without_leading_sign}
use Rattle.std.proofs.lemmas.Bool.{and_parts, le-leb, leb-true, false≢true, false_from_ne_true}
use Rattle.std.proofs.lemmas.Int.{ints}
use Rattle.clap.specs.ValueTests.{is_signed_in, is_unsigned_in}
use Rattle.clap.specs.Values.{IsUnsignedIn}
use Rattle.clap.specs.declared.builder.value_parser.ValueParser.TheVariants.{Signed, Unsigned}
use Rattle.clap.proofs.ValueTestLemmas.{accepts-Accepts, Accepts-accepts}
use Rattle.hippo_values.specs.Moments.{signed_numbers}
use Rattle.hippo_values.specs.Texts.{Txt}
use Rattle.hippo_history_top.specs.CommandLine.{entry_number, patient_number}

abbrev value_of : Txt → ℕ
value_of word = digits_value 10 (without_leading_plus word)

abbrev is_listed : ℕ → Bool
is_listed number = nat_le 1 number && nat_le number 4000000

listed : (number : ℕ) → nat_le 1 number ≡ true → nat_le number 4000000 ≡ true → is_listed number ≡ true
listed number one other = ap (λ (test : Bool). test && nat_le number 4000000) one ∙ other

module _ (word : Txt) where
  unlisted : is_unsigned_in 1 4000000 word ≢ true → None ≡ entry_number word
  unlisted other = ap (λ (test : Bool). then_some test (value_of word)) (sym (false_from_ne_true (is_unsigned_in 1 4000000 word) other))

  as_unsigned : is_unsigned_in 1 4000000 word ≡ true → IsUnsignedIn 1 4000000 word
  as_unsigned is = accepts-Accepts false (Unsigned 1 4000000) word is

  -- a numeral that fits is an entry's number if it is within the bounds
  within_both : IsNumeral 10 (without_leading_plus word) → value_of word < 2 ^ 64 → is_listed (value_of word) ≡ true → is_unsigned_in 1 4000000 word ≡ true
  within_both numeral fits holds =
      let both = and_parts (nat_le 1 (value_of word)) (nat_le (value_of word) 4000000) holds in
      Accepts-accepts false (Unsigned 1 4000000) word (numeral, fits, leb-true 1 (value_of word) both.0, leb-true (value_of word) 4000000 both.1)

  listed_so : is_unsigned_in 1 4000000 word ≡ true → is_listed (value_of word) ≡ true
  listed_so is =
      let parts = as_unsigned is in
      listed (value_of word) (le-leb 1 (value_of word) parts.2) (le-leb (value_of word) 4000000 parts.3)

  same_tests : (one other : Bool) → (one ≡ true → other ≡ true) → (other ≡ true → one ≡ true) → one ≡ other
  same_tests true other forth back = sym (forth refl)
  same_tests false true forth back = back refl
  same_tests false false forth back = refl

  -- the word is a number
  pub number-read : (number : ℕ) → IsNumeral 10 (without_leading_plus word) → value_of word < 2 ^ 64 → number ≡ value_of word → then_some (is_listed number) number ≡ entry_number word
  number-read number numeral fits is =
      ap (λ (n : ℕ). then_some (is_listed n) n) is
      ∙ ap (λ (test : Bool). then_some test (value_of word)) (same_tests (is_listed (value_of word)) (is_unsigned_in 1 4000000 word) (within_both numeral fits) listed_so)

  -- the word is no number
  pub number-unread : (IsNumeral 10 (without_leading_plus word) × (value_of word < 2 ^ 64) → ⊥) → None ≡ entry_number word
  number-unread fails = unlisted (λ is. let parts = as_unsigned is in fails (parts.0, parts.1))

abbrev least : ℤ
least = signed_numbers.0

abbrev greatest : ℤ
greatest = signed_numbers.1

-- a number of 64 bits is within the bounds of such numbers
at_least : (number : ℤ) → FitsSigned w64 number → least ≤ℤ number
at_least number fits = omega (arith, ints, fits.sfits)

at_most : (number : ℤ) → FitsSigned w64 number → number ≤ℤ greatest
at_most number fits = omega (arith, ints, fits.sfits)

module _ (word : Txt) where
  abbrev patient_value : ℤ
  patient_value = signed_digits_value 10 word

  abbrev is_patient : Bool
  is_patient = is_signed_in least greatest word

  patient_there : IsNumeral 10 (without_leading_sign word) × FitsSigned w64 patient_value → is_patient ≡ true
  patient_there parts =
      Accepts-accepts false (Signed least greatest) word (parts.0, parts.1, at_least patient_value parts.1, at_most patient_value parts.1)

  patient_parts : is_patient ≡ true → IsNumeral 10 (without_leading_sign word) × FitsSigned w64 patient_value
  patient_parts is = let parts = accepts-Accepts false (Signed least greatest) word is in (parts.0, parts.1)

  pub patient-parsed : {E : Type 0} (read : Result ℤ E) → ParsesSigned w64 10 word read → result_ok read ≡ patient_number word
  patient-parsed (Ok number) parses = ap Some parses.1 ∙ ap (λ (test : Bool). then_some test patient_value) (sym (patient_there parses.0))
  patient-parsed (Err error) fails =
      ap (λ (test : Bool). then_some test patient_value) (sym (false_from_ne_true is_patient (λ is. fails (patient_parts is))))
