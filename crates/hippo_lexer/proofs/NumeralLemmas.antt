-- Numbers by their spelling.
use Rattle.std.proofs.Common.{◌≡◌, ℕ, ◌+◌, ◌<◌, ◌≤◌, ◌⊎◌, true, false, ◌||◌, List, [], ◌∷◌, ◌++◌, length, take, drop, Some, None, Ok, Err, ok_or, if◌then◌else◌, refl, sym, ap, subst, ◌∙◌, inl, inr, arith, one-add, zero-add, ℤ, pos, ◌==◌, neg_ℤ}
use Rattle.std.specs.List.{list_all}
use Rattle.std.specs.Char.{is_ascii_alphabetic, is_ascii_digit}
use Rattle.std.specs.Str.Parse.{digits_value}
use Rattle.std.proofs.lemmas.Bool.{cases_Bool, false≢true, and_parts, both_ways, eqb-true, ne_eqb, leb-true}
use Rattle.std.proofs.lemmas.Bool.Decides.{nat_tests}
use Rattle.std.proofs.lemmas.List.{take_at, drop_at, take-append-drop}
use Rattle.hippo_values.specs.Names.{is_word_byte}
use Rattle.hippo_lexer.specs.declared.kinds.TokenKind.TheVariants as kinds
use Rattle.hippo_lexer.specs.declared.faults.LexFault.TheVariants as faults
use Rattle.hippo_lexer.specs.Spelling.{is_minus, begins_with}
use Rattle.hippo_lexer.specs.Cutting.{digits_len, sign_len, number_len, if_in_range, number_of, number_first}
use Rattle.hippo_values.specs.Moments.{is_signed_number, IsSignedNumber}
use Rattle.hippo_values.specs.Results.{◌>>=◌}
use Rattle.hippo_lexer.specs.Grammar.{AreDigits, IsNumber, plain, negative}
use Rattle.hippo_lexer.proofs.NumberLemmas.{fits-signed, signed-fits}
use Rattle.hippo_lexer.proofs.PrefixLemmas.{all-front, ends-front, len-front}

digit_bounds : (byte : ℕ) → is_ascii_digit byte ≡ true → (48 ≤ byte) × (byte ≤ 57)
digit_bounds byte h = let parts = and_parts _ _ h in (leb-true 48 byte parts.0, leb-true byte 57 parts.1)

digit_no_minus : (byte : ℕ) → is_ascii_digit byte ≡ true → is_minus byte ≡ false
digit_no_minus byte h = let bounds = digit_bounds byte h in ne_eqb byte 45 (λ same. absurd (omega arith))

digit_no_letter : (byte : ℕ) → is_ascii_digit byte ≡ true → is_ascii_alphabetic byte ≡ false
digit_no_letter byte h = grind (arith, nat_tests)

digit_in_word : (byte : ℕ) → is_word_byte byte ≡ false → is_ascii_digit byte ≡ false
digit_in_word byte h = grind (arith, nat_tests)

pub ends_word : (rest : List ℕ) → begins_with is_word_byte rest ≡ false → begins_with is_ascii_digit rest ≡ false
ends_word [] h = refl
ends_word (byte ∷ rest) h = digit_in_word byte h

-- The length of a number by its spelling.
abbrev HasLens : List ℕ → List ℕ → Type 0
HasLens text rest = (number_len (text ++ rest) ≡ length text) × (sign_len (text ++ rest) < length text)

plain_lens : (digits rest : List ℕ) → AreDigits digits → begins_with is_ascii_digit rest ≡ false → HasLens digits rest
plain_lens [] rest are ends = absurd (omega (arith, are.0))
plain_lens (digit ∷ digits) rest are ends =
    let minus = digit_no_minus digit (and_parts _ _ are.1).0 in
    rw (minus, zero-add) (len-front is_ascii_digit (digit ∷ digits) rest are.1 ends, omega arith)

negative_lens : (digits rest : List ℕ) → AreDigits digits → begins_with is_ascii_digit rest ≡ false → HasLens (45 ∷ digits) rest
negative_lens digits rest are ends = rw (len-front is_ascii_digit digits rest are.1 ends) (omega arith, omega (arith, are.0))

number_lens : (text rest : List ℕ) (number : ℤ) → IsNumber text number → begins_with is_ascii_digit rest ≡ false → HasLens text rest
number_lens text rest number (plain _ _ are value) ends = plain_lens text rest are ends
number_lens text rest number (negative _ digits _ are spelled value) ends = rw spelled (negative_lens digits rest are ends)

-- a number is found exactly when it fits
choice : (number written : ℤ) → number ≡ written → (IsSignedNumber number → if_in_range written ≡ Some number) × (¬ (IsSignedNumber number) → if_in_range written ≡ None)
choice number written same = elim (cases_Bool (is_signed_number written)) [
  | inl fits ↦ (λ _. rw fits (ap Some (sym same)), λ large. absurd (large (subst IsSignedNumber (sym same) (fits-signed written fits))))
  | inr large ↦ (λ fits. absurd (false≢true (sym large ∙ signed-fits written (subst IsSignedNumber same fits))), λ _. rw large refl)
]

-- a number's value is the one that the code reads from its text
plain_value : (digits : List ℕ) (number : ℤ) → AreDigits digits → number ≡ pos (digits_value 10 digits) → (IsSignedNumber number → number_of digits ≡ Some number) × (¬ (IsSignedNumber number) → number_of digits ≡ None)
unfolding number_of
plain_value [] number are value = absurd (omega (arith, are.0))
plain_value (digit ∷ digits) number are value =
    rw (digit_no_minus digit (and_parts _ _ are.1).0) (choice number (pos (digits_value 10 (digit ∷ digits))) value)

negative_value : (digits : List ℕ) (number : ℤ) → number ≡ neg_ℤ (pos (digits_value 10 digits)) → (IsSignedNumber number → number_of (45 ∷ digits) ≡ Some number) × (¬ (IsSignedNumber number) → number_of (45 ∷ digits) ≡ None)
unfolding number_of
negative_value digits number value = choice number (neg_ℤ (pos (digits_value 10 digits))) value

number_value : (text : List ℕ) (number : ℤ) → IsNumber text number → (IsSignedNumber number → number_of text ≡ Some number) × (¬ (IsSignedNumber number) → number_of text ≡ None)
number_value text number (plain _ _ are value) = plain_value text number are value
number_value text number (negative _ digits _ are spelled value) = rw spelled (negative_value digits number value)

pub in_range_or_not : (number : ℤ) → IsSignedNumber number ⊎ (¬ (IsSignedNumber number))
in_range_or_not number = elim (cases_Bool (is_signed_number number)) [
  | inl fits ↦ inl (fits-signed number fits)
  | inr large ↦ inr (λ fits. false≢true (sym large ∙ signed-fits number fits))
]

-- the result on a number
number_step : (place : ℕ) (text rest : List ℕ) (number : ℤ) → IsNumber text number → begins_with is_ascii_digit rest ≡ false → number_first place (text ++ rest) ≡ (ok_or (number_of text) (faults.NumberTooLarge place) >>= λ n. if begins_with is_word_byte rest then Err (faults.BadToken (place + length text)) else Ok (kinds.Number n, length text))
unfolding number_first
number_step place text rest number h ends =
    let lens = number_lens text rest number h ends in
    let some : (number_len (text ++ rest) == sign_len (text ++ rest)) ≡ false = ne_eqb _ _ (λ same. omega (arith, lens.0, lens.1)) in
    rw (some, lens.0, take_at text rest (length text) refl, drop_at text rest (length text) refl) refl

pub number-token : (place : ℕ) (text rest : List ℕ) (number : ℤ) → IsNumber text number → IsSignedNumber number → begins_with is_word_byte rest ≡ false → number_first place (text ++ rest) ≡ Ok (kinds.Number number, length text)
number-token place text rest number h fits ends =
    number_step place text rest number h (ends_word rest ends) ∙ rw ((number_value text number h).0 fits, ends) refl

pub number-letter : (place : ℕ) (text rest : List ℕ) (number : ℤ) → IsNumber text number → IsSignedNumber number → begins_with is_ascii_digit rest ≡ false → begins_with is_word_byte rest ≡ true → number_first place (text ++ rest) ≡ Err (faults.BadToken (place + length text))
number-letter place text rest number h fits ends letter =
    number_step place text rest number h ends ∙ rw ((number_value text number h).0 fits, letter) refl

pub number-large : (place : ℕ) (text rest : List ℕ) (number : ℤ) → IsNumber text number → ¬ (IsSignedNumber number) → begins_with is_ascii_digit rest ≡ false → number_first place (text ++ rest) ≡ Err (faults.NumberTooLarge place)
number-large place text rest number h large ends =
    number_step place text rest number h ends ∙ rw ((number_value text number h).1 large) refl

no_digits : (rest : List ℕ) → begins_with is_ascii_digit rest ≡ false → digits_len rest ≡ 0
no_digits [] h = refl
no_digits (byte ∷ rest) h = rw h refl

pub lone-minus : (place : ℕ) (rest : List ℕ) → begins_with is_ascii_digit rest ≡ false → number_first place (45 ∷ rest) ≡ Err (faults.BadToken place)
unfolding number_first
lone-minus place rest h = rw (no_digits rest h) refl

some_digits : (rest : List ℕ) → begins_with is_ascii_digit rest ≡ true → 0 < length (take (digits_len rest) rest)
some_digits [] h = absurd (both_ways _ refl h)
some_digits (byte ∷ rest) h = rw (h, one-add) (omega arith)

-- a digit or a `-` begins a number, or is a lone `-`
abbrev BeginsNumber : List ℕ → Type 0
BeginsNumber bytes = (text : List ℕ) × (rest : List ℕ) × (number : ℤ) × (bytes ≡ text ++ rest) × IsNumber text number × (begins_with is_ascii_digit rest ≡ false)

abbrev IsLoneMinus : List ℕ → Type 0
IsLoneMinus bytes = (rest : List ℕ) × (bytes ≡ 45 ∷ rest) × (begins_with is_ascii_digit rest ≡ false)

pub number_or_minus : (byte : ℕ) (rest : List ℕ) → (is_ascii_digit byte || is_minus byte) ≡ true → BeginsNumber (byte ∷ rest) ⊎ IsLoneMinus (byte ∷ rest)
number_or_minus byte rest h = elim (cases_Bool (is_ascii_digit byte)) [
  | inl digit ↦ inl (
    take (digits_len (byte ∷ rest)) (byte ∷ rest),
    drop (digits_len (byte ∷ rest)) (byte ∷ rest),
    _,
    sym (take-append-drop (digits_len (byte ∷ rest)) (byte ∷ rest)),
    plain _ _ (rw (digit, one-add) (omega arith), all-front is_ascii_digit (byte ∷ rest)) refl,
    ends-front is_ascii_digit (byte ∷ rest),
  )
  | inr other ↦
      let dash : byte ≡ 45 = eqb-true byte 45 (rw other at h) in
      elim (cases_Bool (begins_with is_ascii_digit rest)) [
        | inl digits ↦ inl (
          45 ∷ take (digits_len rest) rest,
          drop (digits_len rest) rest,
          _,
          ap (λ b. b ∷ rest) dash ∙ ap (λ b. 45 ∷ b) (sym (take-append-drop (digits_len rest) rest)),
          negative _ (take (digits_len rest) rest) _ (some_digits rest digits, all-front is_ascii_digit rest) refl refl,
          ends-front is_ascii_digit rest,
        )
        | inr none ↦ inr (rest, ap (λ b. b ∷ rest) dash, none)
      ]
]

-- a number begins with a digit or with `-`
abbrev BeginsDigit : List ℕ → Type 0
BeginsDigit text = (byte : ℕ) × (tail : List ℕ) × (text ≡ byte ∷ tail) × (is_ascii_alphabetic byte ≡ false) × ((is_ascii_digit byte || is_minus byte) ≡ true)

digits_begin : (digits : List ℕ) → AreDigits digits → BeginsDigit digits
digits_begin [] are = absurd (omega (arith, are.0))
digits_begin (digit ∷ digits) are =
    let first = (and_parts (is_ascii_digit digit) (list_all is_ascii_digit digits) are.1).0 in
    (digit, digits, refl, digit_no_letter digit first, rw first refl)

pub number_begins : (text : List ℕ) (number : ℤ) → IsNumber text number → BeginsDigit text
number_begins text number (plain _ _ are value) = digits_begin text are
number_begins text number (negative _ digits _ are spelled value) = (45, digits, spelled, refl, refl)
