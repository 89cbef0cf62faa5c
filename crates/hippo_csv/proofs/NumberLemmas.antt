-- The number that a field writes.
use Rattle.std.proofs.Common.{◌≡◌, ℕ, ◌==◌, ◌&&◌, ◌<◌, true, false, not, List, [], ◌∷◌, length, refl, inl, inr, arith}
use Rattle.std.specs.Bool.{then_some}
use Rattle.std.specs.Char.{is_ascii_digit}
use Rattle.std.specs.List.{list_all}
use Rattle.std.specs.Str.Parse.{signed_digits_value}
use Rattle.std.proofs.lemmas.Bool.{cases_Bool, and_parts}
use Rattle.std.proofs.lemmas.Bool.Decides.{nat_tests}
use Rattle.hippo_values.specs.Moments.{is_signed_number}
use Rattle.hippo_lexer.specs.Cutting.{number_of, IsNumeral}
use Rattle.hippo_csv.specs.Loading.{is_signed_numeral}

-- one or more digits are digits, and at least one
digits-some : (digits : List ℕ) → (not (length digits == 0) && list_all is_ascii_digit digits) ≡ true
    → (0 < length digits) × (list_all is_ascii_digit digits ≡ true)
digits-some [] are = absurd cc
digits-some (digit ∷ digits) are = (omega arith, (and_parts _ _ are).1)

-- a digit is not a sign
digit-no_plus : (byte : ℕ) → is_ascii_digit byte ≡ true → (byte == 43) ≡ false
digit-no_plus byte is = grind (arith, nat_tests)

pub numeral : (text : List ℕ) → is_signed_numeral text ≡ true → IsNumeral text
numeral [] is = absurd cc
numeral (first ∷ rest) is = elim (cases_Bool (first == 45)) [
  | inl minus ↦
      let digits = digits-some rest (rw minus at is) in
      rw minus (omega (arith, digits.0), digits.1)
  | inr other ↦
      let digits = digits-some (first ∷ rest) (rw other at is) in
      rw other (omega arith, digits.1)
]

-- the number that the code reads from digits is their value, if it fits
pub number-of_numeral : (text : List ℕ) → is_signed_numeral text ≡ true
    → number_of text ≡ then_some (is_signed_number (signed_digits_value 10 text)) (signed_digits_value 10 text)
unfolding number_of
number-of_numeral [] is = absurd cc
number-of_numeral (first ∷ rest) is = elim (cases_Bool (first == 45)) [
  | inl minus ↦ rw minus refl
  | inr other ↦
      let digits = digits-some (first ∷ rest) (rw other at is) in
      let no_plus = digit-no_plus first (and_parts _ _ digits.1).0 in
      rw (other, no_plus) refl
]
