-- The numbers that words write.
use Rattle.std.proofs.Common.{◌≡◌, ℕ, ◌^◌, ◌<◌, true, not, ◌&&◌, List, [], ◌∷◌, length, Result, Ok, Err, inl, inr, refl, arith, rules}
use Rattle.std.specs.Prelude.{nat_lt}
use Rattle.std.specs.Bool.{then_some}
use Rattle.std.specs.List.{list_all}
use Rattle.std.specs.Result.{result_ok, OkIff}
use Rattle.std.specs.Char.{is_ascii_digit}
use Rattle.std.specs.Str.Parse.{digits_value, ParsesUnsigned}
use Rattle.std.proofs.lemmas.Bool.{and_parts, both_ways, cases_Bool, lt-ltb, ltb-true}
use Rattle.std.proofs.lemmas.Str.Parse.{IsDigitsTest, IsNumeralModel, numerals_by_value, parse_digits}
use Rattle.hippo_stmt_lines.specs.Words.{is_filled}
use Rattle.hippo_stmt_lines.specs.Numbers.{is_numeral, has_leading_zero}

tells_digits : IsDigitsTest (λ text. list_all is_ascii_digit text ≡ true)
tells_digits = search rules

digits : IsNumeralModel (λ text. list_all is_ascii_digit text ≡ true) (digits_value 10)
digits = numerals_by_value _ tells_digits

filled : (word : List ℕ) → is_filled word ≡ true → 0 < length word
filled [] h = absurd (both_ways _ refl h)
filled (first ∷ rest) h = omega arith

-- the result of parsing digits
pub value-parsed : {E : Type 0} (word : List ℕ) (r : Result ℕ E) → is_numeral word ≡ true → ParsesUnsigned 32 10 word r → result_ok r ≡ then_some (nat_lt (digits_value 10 word) (2 ^ 32)) (digits_value 10 word)
value-parsed {E = E} word r numeral parses =
    let front = (and_parts (is_filled word && list_all is_ascii_digit word) (not (has_leading_zero word)) numeral).0 in
    let parts = and_parts (is_filled word) (list_all is_ascii_digit word) front in
    by_result word r (filled word parts.0) (parse_digits digits 32 word r parses parts.1)
  where
    by_result : (word : List ℕ) (r : Result ℕ E) → 0 < length word → OkIff r ((0 < length word) × (digits_value 10 word < 2 ^ 32)) (digits_value 10 word) → result_ok r ≡ then_some (nat_lt (digits_value 10 word) (2 ^ 32)) (digits_value 10 word)
    by_result word (Ok value) some is = rw (lt-ltb (digits_value 10 word) (2 ^ 32) is.0.1, is.1) refl
    by_result word (Err fault) some is = elim (cases_Bool (nat_lt (digits_value 10 word) (2 ^ 32))) [
      | inl small ↦ absurd (is (some, ltb-true (digits_value 10 word) (2 ^ 32) small))
      | inr large ↦ rw large refl
    ]
