-- A token begins and ends with an ASCII byte that is not a blank.
use Rattle.std.proofs.Common.{◌≡◌, ℕ, zero, suc, ◌-◌, ◌<◌, Bool, true, false, List, [], ◌∷◌, ◌++◌, length, get_or, Some, ℤ, refl, sym, ap, ◌∙◌, inl, inr, arith}
use Rattle.std.specs.Prelude.{nat_lt}
use Rattle.std.specs.List.{list_all}
use Rattle.std.specs.Char.{is_ascii_alphabetic, is_ascii_digit}
use Rattle.std.proofs.lemmas.Bool.{and_parts, both_ways, ltb-true, not-true, or_cases, eqb-true}
use Rattle.std.proofs.lemmas.Bool.Decides.{nat_tests}
use Rattle.std.proofs.lemmas.List.{append_assoc, get_or_at, length-append}
use Rattle.hippo_values.specs.Names.{is_word_byte, is_word}
use Rattle.hippo_lexer.specs.declared.kinds.Symbol.{Symbol}
use Rattle.hippo_lexer.specs.declared.kinds.TokenKind.{TokenKind}
use Rattle.hippo_lexer.specs.declared.faults.LexFault.{LexFault}
use Rattle.hippo_lexer.specs.Spelling.{is_blank, is_minus, doubled_quotes, sign_of}
use Rattle.hippo_lexer.specs.Grammar.{IsToken, a_keyword, a_refused_word, a_name, a_number, a_quoted_text, a_day, a_sign, IsFault, long_word, letter_after, large, lone_minus, unclosed, no_day, stray, AreDigits, IsNumber, plain, negative, quoted_text}
use Rattle.hippo_lexer.proofs.FrontLemmas.{small_digit, small_word_byte}
use Rattle.hippo_lexer.proofs.NumeralLemmas.{number_begins}
use Rattle.hippo_lexer.proofs.SignLemmas.{sign-begins, sign-plain}

-- a text that begins with an ASCII byte that is not a blank
pub record BeginsPlain (bytes : List ℕ) : Type 0 where
  pub first : ℕ
  pub tail : List ℕ
  pub parts : bytes ≡ first ∷ tail
  pub blank : is_blank first ≡ false
  pub small : first < 128

-- a text that ends with an ASCII byte
abbrev pub EndsPlain : List ℕ → Type 0
EndsPlain text = get_or text (length text - 1) 0 < 128

-- Facts about single bytes.
letter_plain : (byte : ℕ) → is_ascii_alphabetic byte ≡ true → (is_blank byte ≡ false) × (byte < 128)
letter_plain byte h = (grind (arith, nat_tests), grind (arith, nat_tests))

digit_plain : (byte : ℕ) → is_ascii_digit byte ≡ true → (is_blank byte ≡ false) × (byte < 128)
digit_plain byte h = (grind (arith, nat_tests), grind (arith, nat_tests))

-- How each text begins.
pub begins-more : (text rest bytes : List ℕ) → BeginsPlain text → bytes ≡ text ++ rest → BeginsPlain bytes
begins-more text rest bytes h parts = record {
  first = h.first;
  tail = h.tail ++ rest;
  parts = parts ∙ ap (λ t. t ++ rest) h.parts;
  blank = h.blank;
  small = h.small;
}

word_begins : (word : List ℕ) → is_word word ≡ true → BeginsPlain word
word_begins [] h = absurd (both_ways _ refl h)
word_begins (byte ∷ word) h =
    let known = letter_plain byte (and_parts (is_ascii_alphabetic byte) _ h).0 in
    record { first = byte; tail = word; parts = refl; blank = known.0; small = known.1 }

number_plain : (text : List ℕ) (number : ℤ) → IsNumber text number → BeginsPlain text
number_plain text number h =
    let begins = number_begins text number h in
    elim (or_cases (is_ascii_digit begins.0) (is_minus begins.0) begins.4) [
      | inl digit ↦
          let known = digit_plain begins.0 digit in
          record { first = begins.0; tail = begins.1; parts = begins.2; blank = known.0; small = known.1 }
      | inr minus ↦
          let dash : begins.0 ≡ 45 = eqb-true begins.0 45 minus in
          record { first = begins.0; tail = begins.1; parts = begins.2; blank = rw dash refl; small = omega arith }
    ]

sign_begins_plain : (text : List ℕ) (sign : Symbol) → sign_of text ≡ Some sign → BeginsPlain text
sign_begins_plain [] sign h = absurd (both_ways _ refl (sign-begins [] sign h))
sign_begins_plain (byte ∷ text) sign h =
    record { first = byte; tail = text; parts = refl; blank = not-true _ (and_parts _ _ (sign-begins (byte ∷ text) sign h)).1; small = ltb-true byte 128 (and_parts _ _ (sign-plain (byte ∷ text) sign h)).0 }

pub token_begins : (text rest : List ℕ) (kind : TokenKind) → IsToken text kind rest → BeginsPlain text
token_begins text rest kind (a_keyword _ _ keyword whole found alone) = word_begins text whole.form
token_begins text rest kind (a_refused_word _ _ whole among) = word_begins text whole.form
token_begins text rest kind (a_name _ _ whole form) = word_begins text whole.form
token_begins text rest kind (a_number _ _ number h fits ends) = number_plain text number h
token_begins text rest kind (a_quoted_text _ said _ spelled ends) = record { first = 39; tail = doubled_quotes said ++ 39 ∷ []; parts = spelled; blank = refl; small = omega arith }
token_begins text rest kind (a_day _ word remaining blanks said _ day opens is_day spelled) = begins-more word (blanks ++ quoted_text said) text (word_begins word opens.whole.form) spelled
token_begins text rest kind (a_sign _ _ sign h longest) = sign_begins_plain text sign h

-- a text that begins with a byte that is not a blank
abbrev pub BeginsFilled : List ℕ → Type 0
BeginsFilled bytes = (first : ℕ) × (tail : List ℕ) × (bytes ≡ first ∷ tail) × (is_blank first ≡ false)

filled : (text rest bytes : List ℕ) → BeginsPlain text → bytes ≡ text ++ rest → BeginsFilled bytes
filled text rest bytes h parts = let more = begins-more text rest bytes h parts in (more.first, more.tail, more.parts, more.blank)

pub fault_begins : (place : ℕ) (bytes : List ℕ) (fault : LexFault) → IsFault place bytes fault → BeginsFilled bytes
fault_begins place bytes fault (long_word _ _ word rest whole long spelled) = filled word rest bytes (word_begins word whole.form) spelled
fault_begins place bytes fault (letter_after _ at _ text rest number h fits ends letter spelled there) = filled text rest bytes (number_plain text number h) spelled
fault_begins place bytes fault (large _ _ text rest number h too_large ends spelled) = filled text rest bytes (number_plain text number h) spelled
fault_begins place bytes fault (lone_minus _ _ rest none spelled) = (45, rest, spelled, refl)
fault_begins place bytes fault (unclosed _ _ text spelled) = (39, doubled_quotes text, spelled, refl)
fault_begins place bytes fault (no_day _ _ word remaining blanks text rest opens none spelled) = filled word remaining bytes (word_begins word opens.whole.form) spelled
fault_begins place bytes fault (stray _ byte _ rest h spelled) = (byte, rest, spelled, h.blank)

-- How each token ends.
at_end : (front : List ℕ) (last : ℕ) (text : List ℕ) → last < 128 → text ≡ front ++ last ∷ [] → EndsPlain text
at_end front last text small parts =
    let count : length (front ++ last ∷ []) - 1 ≡ length front = simp length-append (omega arith) in
    rw (parts, count, get_or_at front last [] 0 (length front) refl) small

all_plain : (test : ℕ → Bool) → ((byte : ℕ) → test byte ≡ true → byte < 128) → (text : List ℕ) → list_all test text ≡ true → (i : ℕ) → get_or text i 0 < 128
all_plain test small [] all i = omega arith
all_plain test small (byte ∷ text) all zero = small byte (and_parts _ _ all).0
all_plain test small (byte ∷ text) all (suc i) = all_plain test small text (and_parts _ _ all).1 i

word_ends : (word : List ℕ) → is_word word ≡ true → EndsPlain word
word_ends word h = all_plain is_word_byte small_word_byte word (and_parts _ _ h).1 _

digits_small : (digits : List ℕ) → AreDigits digits → (i : ℕ) → get_or digits i 0 < 128
digits_small digits are i = all_plain is_ascii_digit small_digit digits are.1 i

number_ends : (text : List ℕ) (number : ℤ) → IsNumber text number → EndsPlain text
number_ends text number (plain _ _ are value) = digits_small text are _
number_ends text number (negative _ digits _ are spelled value) = (let last : suc (length digits) - 1 ≡ length digits = omega arith in rw (spelled, last) (remaining (length digits))) where
  remaining : (i : ℕ) → get_or (45 ∷ digits) i 0 < 128
  remaining zero = omega arith
  remaining (suc i) = digits_small digits are i

pub token_ends : (text rest : List ℕ) (kind : TokenKind) → IsToken text kind rest → EndsPlain text
token_ends text rest kind (a_keyword _ _ keyword whole found alone) = word_ends text whole.form
token_ends text rest kind (a_refused_word _ _ whole among) = word_ends text whole.form
token_ends text rest kind (a_name _ _ whole form) = word_ends text whole.form
token_ends text rest kind (a_number _ _ number h fits ends) = number_ends text number h
token_ends text rest kind (a_quoted_text _ said _ spelled ends) = at_end (39 ∷ doubled_quotes said) 39 text (omega arith) spelled
token_ends text rest kind (a_day _ word remaining blanks said _ day opens is_day spelled) =
    at_end (word ++ (blanks ++ 39 ∷ doubled_quotes said)) 39 text (omega arith) (spelled ∙ sym (append_assoc word (blanks ++ 39 ∷ doubled_quotes said) (39 ∷ []) ∙ ap (λ b. word ++ b) (append_assoc blanks (39 ∷ doubled_quotes said) (39 ∷ []))))
token_ends text rest kind (a_sign _ _ sign h longest) = all_plain (λ byte. nat_lt byte 128) (λ byte. ltb-true byte 128) text (sign-plain text sign h) _
