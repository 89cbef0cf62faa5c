-- The value of a parsed number.
use Rattle.std.proofs.Common.{◌≡◌, ℕ, Bool, true, List, [], ◌∷◌, Result, Ok, Err, refl, arith, w64, ℤ, pos, neg_ℤ, int_le, inl, inr, rules}
use Rattle.std.specs.Result.{result_ok, OkIff}
use Rattle.std.specs.Bool.{then_some}
use Rattle.std.specs.List.{list_all}
use Rattle.std.specs.Char.{is_ascii_digit}
use Rattle.std.specs.Str.Parse.{ParsesSigned, digits_value}
use Rattle.std.proofs.lemmas.Bool.{cases_Bool, and_parts, eqb-true}
use Rattle.std.proofs.lemmas.Str.Parse.{IsNumeralModel, numerals_by_value, parse_signed_minus, parse_signed_digits}
use Rattle.std.proofs.lemmas.Int.{ints}
use Rattle.hippo_values.specs.Moments.{signed_numbers, is_signed_number, IsSignedNumber}
use Rattle.hippo_lexer.specs.Spelling.{is_minus}
use Rattle.hippo_lexer.specs.Cutting.{number_of, IsNumeral}

digits : IsNumeralModel (λ ds. list_all is_ascii_digit ds ≡ true) (digits_value 10)
digits = numerals_by_value (λ ds. list_all is_ascii_digit ds ≡ true) (search rules)

-- a result that is `value` exactly when the test passes
if_ok : {E : Type 0} (r : Result ℤ E) (P : Type 0) (value : ℤ) (test : Bool) → OkIff r P value → (test ≡ true → P) → (P → test ≡ true) → result_ok r ≡ then_some test value
if_ok (Ok x) P value test h to from = rw (from h.0, h.1) refl
if_ok (Err e) P value test h to from = elim (cases_Bool test) [ inl passed ↦ absurd (h (to passed)) | inr failed ↦ rw failed refl ]

pub fits-signed : (number : ℤ) → is_signed_number number ≡ true → IsSignedNumber number
fits-signed number fits = let h = and_parts (int_le signed_numbers.0 number) (int_le number signed_numbers.1) fits in grind (arith, ints)

pub signed-fits : (number : ℤ) → IsSignedNumber number → is_signed_number number ≡ true
signed-fits number fits = grind (arith, ints)

pub number_of-parsed : {E : Type 0} (text : List ℕ) (r : Result ℤ E) → ParsesSigned w64 10 text r → IsNumeral text → result_ok r ≡ number_of text
unfolding number_of
number_of-parsed [] r h numeral = absurd (omega (arith, numeral.0))
number_of-parsed (first ∷ rest) r h numeral = elim (cases_Bool (is_minus first)) [
  | inl minus ↦
      let some = rw minus at numeral in
      let number = neg_ℤ (pos (digits_value 10 rest)) in
      let parsed = parse_signed_minus digits w64 (first ∷ rest) r h (eqb-true first 45 minus) in
      rw minus (if_ok r _ _ _ parsed (λ passed. (some.1, omega (arith, some.0), omega (arith, ints, (fits-signed number passed).0)))
      (λ p. signed-fits number (omega (arith, ints, p.2), omega (arith, ints, p.2))))
  | inr other ↦
      let some = rw other at numeral in
      let number = pos (digits_value 10 (first ∷ rest)) in
      let parsed = parse_signed_digits digits w64 (first ∷ rest) r h some.1 in
      rw other (if_ok r _ _ _ parsed (λ passed. (omega (arith, some.0), omega (arith, ints, (fits-signed number passed).1)))
      (λ p. signed-fits number (omega (arith, ints, p.1), omega (arith, ints, p.1))))
]
