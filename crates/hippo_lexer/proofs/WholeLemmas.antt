-- Whole words, and days after the word DATE.
use Rattle.std.proofs.Common.{◌≡◌, ℕ, ◌+◌, ◌⊎◌, true, false, List, [], ◌∷◌, ◌++◌, length, take, drop, Some, None, Ok, ok_or, if◌then◌else◌, refl, sym, ap, ◌∙◌, inl, inr, arith, one-add}
use Rattle.std.specs.Char.{is_ascii_alphabetic}
use Rattle.std.proofs.lemmas.Bool.{cases_Bool, and_parts, and_from, both_ways, eqb-true}
use Rattle.std.proofs.lemmas.Bool.Decides.{nat_tests}
use Rattle.std.proofs.lemmas.List.{take_at, drop_at, take-append-drop}
use Rattle.hippo_values.specs.Names.{is_word_byte, is_word}
use Rattle.hippo_values.specs.declared.keywords.Keyword.TheVariants.{KDate}
use Rattle.hippo_values.specs.Results.{◌>>=◌}
use Rattle.hippo_lexer.specs.declared.kinds.TokenKind.TheVariants as kinds
use Rattle.hippo_lexer.specs.declared.faults.LexFault.TheVariants as faults
use Rattle.hippo_lexer.specs.Spelling.{is_blank, is_quote, begins_with}
use Rattle.hippo_lexer.specs.Cutting.{word_len, blanks_len, word_kind, is_date, quoted_first, day_first, date_first, word_first}
use Rattle.hippo_lexer.specs.Grammar.{IsWholeWord, IsQuotedAfter, quoted_text}
use Rattle.hippo_lexer.proofs.PrefixLemmas.{all-front, ends-front, len-front}
use Rattle.hippo_lexer.proofs.QuotedLemmas.{quoted_first-is, quoted_first-unclosed, quoted_or_open}

letter_in_word : (byte : ℕ) → is_ascii_alphabetic byte ≡ true → is_word_byte byte ≡ true
letter_in_word byte h = grind (arith, nat_tests)

-- a whole word is what the code splits off
pub whole-begins : (word rest : List ℕ) → IsWholeWord word rest → begins_with is_ascii_alphabetic (word ++ rest) ≡ true
whole-begins [] rest h = absurd (both_ways _ refl h.form)
whole-begins (byte ∷ word) rest h = (and_parts _ _ h.form).0

whole-len : (word rest : List ℕ) → IsWholeWord word rest → word_len (word ++ rest) ≡ length word
whole-len word rest h = len-front is_word_byte word rest (and_parts _ _ h.form).1 h.ends

-- and what the code splits off is a whole word
pub cut_whole : (byte : ℕ) (rest : List ℕ) → is_ascii_alphabetic byte ≡ true → IsWholeWord (take (word_len (byte ∷ rest)) (byte ∷ rest)) (drop (word_len (byte ∷ rest)) (byte ∷ rest))
cut_whole byte rest letter = record {
  form = and_from _ _ (rw (letter_in_word byte letter, one-add) letter) (all-front is_word_byte (byte ∷ rest));
  ends = ends-front is_word_byte (byte ∷ rest);
}

pub front_is_word : (bytes : List ℕ) → begins_with is_ascii_alphabetic bytes ≡ true → is_word (take (word_len bytes) bytes) ≡ true
front_is_word [] letter = absurd (both_ways _ refl letter)
front_is_word (byte ∷ rest) letter = (cut_whole byte rest letter).form

-- the result on a word
pub word_step : (place : ℕ) (word rest : List ℕ) → IsWholeWord word rest → word_first place (word ++ rest) ≡ (ok_or (word_kind word) (faults.BadToken place) >>= λ kind. if is_date kind then date_first place (length word) rest else Ok (kind, length word))
unfolding word_first
word_step place word rest h = rw (whole-len word rest h, take_at word rest (length word) refl, drop_at word rest (length word) refl) refl

-- a quoted text after blanks is found
quoted_len : (remaining blanks text rest : List ℕ) → IsQuotedAfter remaining blanks text rest → blanks_len remaining ≡ length blanks
quoted_len remaining blanks text rest h = rw h.parts (len-front is_blank blanks (quoted_text text ++ rest) h.gap refl)

pub quoted_there : (remaining blanks text rest : List ℕ) → IsQuotedAfter remaining blanks text rest → quoted_first (drop (blanks_len remaining) remaining) ≡ Some (text, length (quoted_text text))
quoted_there remaining blanks text rest h =
    rw (quoted_len remaining blanks text rest h, h.parts, drop_at blanks (quoted_text text ++ rest) (length blanks) refl) (quoted_first-is text rest h.ends)

-- or there is none
quoted_at : (bytes : List ℕ) → ((text : List ℕ) × (rest : List ℕ) × (bytes ≡ quoted_text text ++ rest) × (begins_with is_quote rest ≡ false)) ⊎ (quoted_first bytes ≡ None)
unfolding quoted_first
quoted_at [] = inr refl
quoted_at (byte ∷ rest) = elim (cases_Bool (is_quote byte)) [
  | inl quote ↦
      let same : byte ∷ rest ≡ 39 ∷ rest = ap (λ b. b ∷ rest) (eqb-true byte 39 quote) in
      elim (quoted_or_open rest) [
        | inl found ↦ inl (found.0, found.1, same ∙ found.2, found.3)
        | inr stays ↦ inr (ap quoted_first (same ∙ stays.1) ∙ quoted_first-unclosed stays.0)
      ]
  | inr other ↦ inr (rw other refl)
]

pub quoted_or_none : (remaining : List ℕ) → ((text : List ℕ) × (rest : List ℕ) × IsQuotedAfter remaining (take (blanks_len remaining) remaining) text rest) ⊎ (quoted_first (drop (blanks_len remaining) remaining) ≡ None)
quoted_or_none remaining = elim (quoted_at (drop (blanks_len remaining) remaining)) [
  | inl found ↦ inl (
    found.0,
    found.1,
    record {
      gap = all-front is_blank remaining;
      parts = sym (take-append-drop (blanks_len remaining) remaining) ∙ ap (λ b. take (blanks_len remaining) remaining ++ b) found.2;
      ends = found.3;
    },
  )
  | inr none ↦ inr none
]

-- The word DATE, before a quoted text and without one.
pub date-day : (place n : ℕ) (remaining blanks text rest : List ℕ) → IsQuotedAfter remaining blanks text rest → date_first place n remaining ≡ day_first place (n + length blanks) (text, length (quoted_text text))
unfolding date_first
date-day place n remaining blanks text rest h =
    rw (quoted_there remaining blanks text rest h, quoted_len remaining blanks text rest h) refl

pub date-alone : (place n : ℕ) (remaining : List ℕ) → ((blanks text rest : List ℕ) → ¬ (IsQuotedAfter remaining blanks text rest)) → date_first place n remaining ≡ Ok (kinds.Keyword KDate, n)
unfolding date_first
date-alone place n remaining none = elim (quoted_or_none remaining) [
  | inl found ↦ absurd (none _ found.0 found.1 found.2)
  | inr alone ↦ rw alone refl
]
