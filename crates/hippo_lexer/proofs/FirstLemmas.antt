-- A token or a fault begins at each byte that is not a blank.
use Rattle.std.proofs.Common.{◌≡◌, ℕ, ◌⊎◌, true, false, ◌||◌, List, ◌∷◌, ◌++◌, take, Option, Some, None, refl, sym, ap, ◌∙◌, inl, inr, IfSome, IfNone, ℤ}
use Rattle.std.specs.Char.{is_ascii_alphabetic, is_ascii_digit}
use Rattle.std.proofs.lemmas.Bool.{cases_Bool, eqb-true, or_parts}
use Rattle.std.proofs.lemmas.List.{take-append-drop}
use Rattle.hippo_values.specs.Names.{is_word_byte, keyword_of}
use Rattle.hippo_values_text.specs.Dates.{IsDayText}
use Rattle.hippo_values.specs.declared.keywords.Keyword.{Keyword}
use Rattle.hippo_values.specs.declared.keywords.Keyword.TheVariants.{KDate}
use Rattle.hippo_lexer.specs.declared.kinds.TokenKind.{TokenKind}
use Rattle.hippo_lexer.specs.declared.faults.LexFault.{LexFault}
use Rattle.hippo_lexer.specs.Spelling.{is_blank, is_quote, is_minus, begins_with}
use Rattle.hippo_lexer.specs.Cutting.{word_len, blanks_len, day_of}
use Rattle.hippo_lexer.specs.Grammar.{IsToken, a_keyword, a_refused_word, a_name, a_number, a_quoted_text, a_day, a_sign, IsFault, long_word, letter_after, large, lone_minus, unclosed, no_day, stray, IsWholeWord, OpensDay, quoted_text}
use Rattle.hippo_lexer.proofs.DayLemmas.{day_of-found, day_of-none}
use Rattle.hippo_lexer.proofs.NumeralLemmas.{number_or_minus, in_range_or_not}
use Rattle.hippo_lexer.proofs.QuotedLemmas.{quoted_or_open}
use Rattle.hippo_lexer.proofs.SignLemmas.{sign_or_none}
use Rattle.hippo_lexer.proofs.TokenLemmas.{regrouped}
use Rattle.hippo_lexer.proofs.WholeLemmas.{cut_whole, quoted_there, quoted_or_none}
use Rattle.hippo_lexer.proofs.WordLemmas.{word_cases}

abbrev pub HasToken : List ℕ → Type 0
HasToken bytes = (text : List ℕ) × (rest : List ℕ) × (kind : TokenKind) × (bytes ≡ text ++ rest) × IsToken text kind rest

abbrev pub HasFault : ℕ → List ℕ → Type 0
HasFault place bytes = (fault : LexFault) × IsFault place bytes fault

-- The word DATE, and another keyword.
day_or_none : (text : List ℕ) → ((day : ℤ) × IsDayText text day) ⊎ ((day : ℤ) → ¬ (IsDayText text day))
day_or_none text = by_answer (day_of text) (day_of-found text) (day_of-none text) where
  by_answer : (o : Option ℤ) → IfSome o (IsDayText text) → IfNone o ((day : ℤ) → ¬ (IsDayText text day)) → ((day : ℤ) × IsDayText text day) ⊎ ((day : ℤ) → ¬ (IsDayText text day))
  by_answer (Some day) some none = inl (day, some)
  by_answer None some none = inr none

some_is_not_none : {X : Type 0} {x : X} → Some x ≡ None → ⊥
some_is_not_none h = cc

date_first_is : (place : ℕ) (bytes word remaining : List ℕ) → bytes ≡ word ++ remaining → IsWholeWord word remaining → keyword_of word ≡ Some KDate → HasToken bytes ⊎ HasFault place bytes
date_first_is place bytes word remaining cut whole date = elim (quoted_or_none remaining) [
  | inl found ↦
      let opens : OpensDay word remaining (take (blanks_len remaining) remaining) found.0 found.1 = record { whole = whole; date = date; quotation = found.2 } in
      elim (day_or_none found.0) [
        | inl day ↦ inl (
          word ++ (take (blanks_len remaining) remaining ++ quoted_text found.0),
          found.1,
          _,
          cut ∙ sym (regrouped word _ (quoted_text found.0) found.1 remaining _ found.2.parts refl),
          a_day _ word remaining _ found.0 found.1 day.0 opens day.1 refl,
        )
        | inr none ↦ inr (_, no_day place bytes word remaining _ found.0 found.1 opens none cut)
      ]
  | inr alone ↦ inl (word, remaining, _, cut, a_keyword word remaining KDate whole date (λ same blanks text rest h. some_is_not_none (sym (quoted_there remaining blanks text rest h) ∙ alone)))
]

keyword_first : (place : ℕ) (bytes word remaining : List ℕ) (keyword : Keyword) → bytes ≡ word ++ remaining → IsWholeWord word remaining → keyword_of word ≡ Some keyword → HasToken bytes ⊎ HasFault place bytes
keyword_first place bytes word remaining KDate cut whole found = date_first_is place bytes word remaining cut whole found
keyword_first place bytes word remaining keyword cut whole found = inl (word, remaining, _, cut, a_keyword word remaining keyword whole found (λ same. absurd ((cc))))

word_is : (place : ℕ) (bytes word remaining : List ℕ) → bytes ≡ word ++ remaining → IsWholeWord word remaining → HasToken bytes ⊎ HasFault place bytes
word_is place bytes word remaining cut whole = elim (word_cases word whole.form) [
  | inl keyword ↦ keyword_first place bytes word remaining keyword.0 cut whole keyword.1
  | inr (inl refused) ↦ inl (word, remaining, _, cut, a_refused_word word remaining whole refused)
  | inr (inr (inl name)) ↦ inl (word, remaining, _, cut, a_name word remaining whole name)
  | inr (inr (inr long)) ↦ inr (_, long_word place bytes word remaining whole long cut)
]

number_is : (place byte : ℕ) (rest : List ℕ) → (is_ascii_digit byte || is_minus byte) ≡ true → HasToken (byte ∷ rest) ⊎ HasFault place (byte ∷ rest)
number_is place byte rest h = elim (number_or_minus byte rest h) [
  | inl found ↦ elim (in_range_or_not found.2) [
    | inl fits ↦ elim (cases_Bool (begins_with is_word_byte found.1)) [
      | inl letter ↦ inr (_, letter_after place _ _ found.0 found.1 found.2 found.4 fits found.5 letter found.3 refl)
      | inr ends ↦ inl (found.0, found.1, _, found.3, a_number found.0 found.1 found.2 found.4 fits ends)
    ]
    | inr too_large ↦ inr (_, large place _ found.0 found.1 found.2 found.4 too_large found.5 found.3)
  ]
  | inr minus ↦ inr (_, lone_minus place _ minus.0 minus.2 minus.1)
]

quote_is : (place byte : ℕ) (rest : List ℕ) → byte ≡ 39 → HasToken (byte ∷ rest) ⊎ HasFault place (byte ∷ rest)
quote_is place byte rest quote = elim (quoted_or_open rest) [
  | inl found ↦ inl (quoted_text found.0, found.1, _, ap (λ b. b ∷ rest) quote ∙ found.2, a_quoted_text _ found.0 found.1 refl found.3)
  | inr stays ↦ inr (_, unclosed place _ stays.0 (ap (λ b. b ∷ rest) quote ∙ stays.1))
]

sign_is : (place byte : ℕ) (rest : List ℕ) → is_blank byte ≡ false → is_ascii_alphabetic byte ≡ false → (is_ascii_digit byte || is_minus byte) ≡ false → is_quote byte ≡ false → HasToken (byte ∷ rest) ⊎ HasFault place (byte ∷ rest)
sign_is place byte rest blank letter numeral quote = elim (sign_or_none byte rest) [
  | inl found ↦ inl (found.0, found.1, _, found.3, a_sign found.0 found.1 found.2 found.4 found.5)
  | inr none ↦
      let parts = or_parts (is_ascii_digit byte) (is_minus byte) numeral in
      inr (_, stray place byte _ rest (record { blank = blank; letter = letter; digit = parts.0; minus = parts.1; quote = quote; sign = none.0; longer = none.1 }) refl)
]

-- a token or a fault begins at each byte that is not a blank
pub token_or_fault : (place byte : ℕ) (rest : List ℕ) → is_blank byte ≡ false → HasToken (byte ∷ rest) ⊎ HasFault place (byte ∷ rest)
token_or_fault place byte rest blank = elim (cases_Bool (is_ascii_alphabetic byte)) [
  | inl letter ↦ word_is place (byte ∷ rest) _ _ (sym (take-append-drop (word_len (byte ∷ rest)) (byte ∷ rest))) (cut_whole byte rest letter)
  | inr no_letter ↦ elim (cases_Bool (is_ascii_digit byte || is_minus byte)) [
    | inl numeral ↦ number_is place byte rest numeral
    | inr no_number ↦ elim (cases_Bool (is_quote byte)) [
      | inl quote ↦ quote_is place byte rest (eqb-true byte 39 quote)
      | inr no_quote ↦ sign_is place byte rest blank no_letter no_number no_quote
    ]
  ]
]
