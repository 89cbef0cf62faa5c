-- The first token of a text, by the grammar and by the code.
use Rattle.std.proofs.Common.{◌≡◌, ℕ, ◌+◌, true, false, not, ◌&&◌, ◌||◌, List, [], ◌∷◌, ◌++◌, length, Some, Ok, Err, ok_or, if◌then◌else◌, ℤ, refl, sym, ap, ◌∙◌, arith}
use Rattle.std.specs.Char.{is_ascii_alphabetic, is_ascii_digit}
use Rattle.std.proofs.lemmas.Bool.{and_parts, both_ways, not-true}
use Rattle.std.proofs.lemmas.List.{append_assoc, length-append}
use Rattle.hippo_values_text.specs.Dates.{IsDayText}
use Rattle.hippo_values.specs.declared.keywords.Keyword.{Keyword}
use Rattle.hippo_values.specs.declared.keywords.Keyword.TheVariants.{KDate}
use Rattle.hippo_values.specs.Results.{◌>>=◌}
use Rattle.hippo_lexer.specs.declared.kinds.Symbol.{Symbol}
use Rattle.hippo_lexer.specs.declared.kinds.TokenKind.{TokenKind}
use Rattle.hippo_lexer.specs.declared.kinds.TokenKind.TheVariants as kinds
use Rattle.hippo_lexer.specs.declared.faults.LexFault.{LexFault}
use Rattle.hippo_lexer.specs.declared.faults.LexFault.TheVariants as faults
use Rattle.hippo_lexer.specs.Spelling.{is_blank, is_quote, is_minus, begins_with, sign_of}
use Rattle.hippo_lexer.specs.Cutting.{word_kind, is_date, day_first, date_first, word_first, number_first, quoted_first, sign_first, token_first}
use Rattle.hippo_lexer.specs.Grammar.{IsToken, a_keyword, a_refused_word, a_name, a_number, a_quoted_text, a_day, a_sign, IsFault, long_word, letter_after, large, lone_minus, unclosed, no_day, stray, IsNumber, IsWholeWord, IsQuotedAfter, OpensDay, quoted_text}
use Rattle.hippo_lexer.proofs.DayLemmas.{day_of-day, day_of-no_day}
use Rattle.hippo_lexer.proofs.NumeralLemmas.{number_begins, number-token, number-letter, number-large, lone-minus}
use Rattle.hippo_lexer.proofs.QuotedLemmas.{quoted_first-is, quoted_first-unclosed}
use Rattle.hippo_lexer.proofs.SignLemmas.{sign-begins, sign_first-is, no_sign}
use Rattle.hippo_lexer.proofs.WholeLemmas.{whole-begins, word_step, date-day, date-alone}
use Rattle.hippo_lexer.proofs.WordLemmas.{kind-keyword, kind-refused, kind-name, kind-long}

-- The first byte selects the kind of token.
letter_first : (place : ℕ) (bytes : List ℕ) → begins_with is_ascii_alphabetic bytes ≡ true → token_first place bytes ≡ word_first place bytes
unfolding token_first
letter_first place bytes letter = rw letter refl

number_chosen : (place byte : ℕ) (rest : List ℕ) → is_ascii_alphabetic byte ≡ false → (is_ascii_digit byte || is_minus byte) ≡ true → token_first place (byte ∷ rest) ≡ number_first place (byte ∷ rest)
unfolding token_first
number_chosen place byte rest letter numeral = rw (letter, numeral) refl

quote_chosen : (place : ℕ) (rest : List ℕ) → token_first place (39 ∷ rest) ≡ (ok_or (quoted_first (39 ∷ rest)) (faults.BadToken place) >>= λ found. Ok (kinds.Quoted found.0, found.1))
unfolding token_first
quote_chosen place rest = refl

sign_chosen : (place byte : ℕ) (rest : List ℕ) → is_ascii_alphabetic byte ≡ false → (is_ascii_digit byte || is_minus byte) ≡ false → is_quote byte ≡ false → token_first place (byte ∷ rest) ≡ (ok_or (sign_first (byte ∷ rest)) (faults.BadToken place) >>= λ found. Ok (kinds.Symbol found.0, found.1))
unfolding token_first
sign_chosen place byte rest letter numeral quote = rw (letter, numeral, quote) refl

number_cut : (place : ℕ) (text rest : List ℕ) (number : ℤ) → IsNumber text number → token_first place (text ++ rest) ≡ number_first place (text ++ rest)
number_cut place text rest number h =
    let begins = number_begins text number h in
    rw begins.2 (number_chosen place begins.0 (begins.1 ++ rest) begins.3 begins.4)

-- The code finds the token that the grammar has.
keyword_end : (place n : ℕ) (rest : List ℕ) (keyword : Keyword) → (keyword ≡ KDate → (blanks text more : List ℕ) → ¬ (IsQuotedAfter rest blanks text more)) → (if is_date (kinds.Keyword keyword) then date_first place n rest else Ok (kinds.Keyword keyword, n)) ≡ Ok (kinds.Keyword keyword, n)
keyword_end place n rest KDate alone = date-alone place n rest (alone refl)
keyword_end place n rest _ alone = refl

word_cut : (place : ℕ) (word rest : List ℕ) → IsWholeWord word rest → token_first place (word ++ rest) ≡ (ok_or (word_kind word) (faults.BadToken place) >>= λ kind. if is_date kind then date_first place (length word) rest else Ok (kind, length word))
word_cut place word rest h = letter_first place (word ++ rest) (whole-begins word rest h) ∙ word_step place word rest h

day_cut : (place : ℕ) (word remaining blanks text rest : List ℕ) → OpensDay word remaining blanks text rest → token_first place (word ++ remaining) ≡ day_first place (length word + length blanks) (text, length (quoted_text text))
day_cut place word remaining blanks text rest h =
    word_cut place word remaining h.whole ∙ rw (kind-keyword word KDate h.date) (date-day place (length word) remaining blanks text rest h.quotation)

parts_of : (byte : ℕ) → (not (is_ascii_alphabetic byte) && not (is_ascii_digit byte) && not (is_minus byte) && not (is_quote byte) && not (is_blank byte)) ≡ true → (is_ascii_alphabetic byte ≡ false) × ((is_ascii_digit byte || is_minus byte) ≡ false) × (is_quote byte ≡ false) × (is_blank byte ≡ false)
parts_of byte h =
    let four = and_parts _ _ h in
    let three = and_parts _ _ four.0 in
    let two = and_parts _ _ three.0 in
    let one = and_parts _ _ two.0 in
    (not-true _ one.0, rw (not-true _ one.1) (not-true _ two.1), not-true _ three.1, not-true _ four.1)

sign_cut : (place : ℕ) (text rest : List ℕ) (sign : Symbol) → sign_of text ≡ Some sign → token_first place (text ++ rest) ≡ (ok_or (sign_first (text ++ rest)) (faults.BadToken place) >>= λ found. Ok (kinds.Symbol found.0, found.1))
sign_cut place [] rest sign h = absurd (both_ways _ refl (sign-begins [] sign h))
sign_cut place (byte ∷ text) rest sign h =
    let parts = parts_of byte (sign-begins (byte ∷ text) sign h) in
    sign_chosen place byte (text ++ rest) parts.0 parts.1 parts.2

quoted_cut : (place : ℕ) (text rest : List ℕ) → begins_with is_quote rest ≡ false → token_first place (quoted_text text ++ rest) ≡ Ok (kinds.Quoted text, length (quoted_text text))
quoted_cut place text rest ends = quote_chosen place _ ∙ rw (quoted_first-is text rest ends) refl

-- a day's text and what follows it, grouped in two ways
pub regrouped : (word blanks said rest remaining written : List ℕ) → remaining ≡ blanks ++ (said ++ rest) → written ≡ word ++ (blanks ++ said) → written ++ rest ≡ word ++ remaining
regrouped word blanks said rest remaining written parts spelled =
    ap (λ w. w ++ rest) spelled ∙ (append_assoc word (blanks ++ said) rest ∙ ap (λ b. word ++ b) (append_assoc blanks said rest ∙ sym parts))

day_len : (word blanks said written : List ℕ) → written ≡ word ++ (blanks ++ said) → length word + length blanks + length said ≡ length written
day_len word blanks said written spelled = rw spelled (simp length-append (omega arith))

day_found : (place n : ℕ) (text : List ℕ) (m : ℕ) (day : ℤ) → IsDayText text day → day_first place n (text, m) ≡ Ok (kinds.Day day, n + m)
unfolding day_first
day_found place n text m day h = rw (day_of-day text day h) refl

pub token-is : (place : ℕ) (text rest : List ℕ) (kind : TokenKind) → IsToken text kind rest → token_first place (text ++ rest) ≡ Ok (kind, length text)
token-is place text rest kind (a_keyword _ _ keyword whole found alone) = word_cut place text rest whole ∙ rw (kind-keyword text keyword found) (keyword_end place (length text) rest keyword alone)
token-is place text rest kind (a_refused_word _ _ whole among) = word_cut place text rest whole ∙ rw (kind-refused text among) refl
token-is place text rest kind (a_name _ _ whole form) = word_cut place text rest whole ∙ rw (kind-name text form) refl
token-is place text rest kind (a_number _ _ number h fits ends) = number_cut place text rest number h ∙ number-token place text rest number h fits ends
token-is place text rest kind (a_quoted_text _ said _ spelled ends) = rw spelled (quoted_cut place said rest ends)
token-is place text rest kind (a_day _ word remaining blanks said _ day opens is_day spelled) =
    let whole = regrouped word blanks (quoted_text said) rest remaining text opens.quotation.parts spelled in
    let len = day_len word blanks (quoted_text said) text spelled in
    ap (token_first place) whole ∙ (day_cut place word remaining blanks said rest opens ∙ (day_found place _ said _ day is_day ∙ ap (λ n. Ok (kinds.Day day, n)) len))
token-is place text rest kind (a_sign _ _ sign h longest) = sign_cut place text rest sign h ∙ rw (sign_first-is text rest sign h longest) refl

day_missing : (place n : ℕ) (text : List ℕ) (m : ℕ) → ((day : ℤ) → ¬ (IsDayText text day)) → day_first place n (text, m) ≡ Err (faults.BadDate place)
unfolding day_first
day_missing place n text m none = rw (day_of-no_day text none) refl

-- And so it does the fault.
pub fault-is : (place : ℕ) (bytes : List ℕ) (fault : LexFault) → IsFault place bytes fault → token_first place bytes ≡ Err fault
fault-is place bytes fault (long_word _ _ word rest whole long spelled) = ap (token_first place) spelled ∙ (word_cut place word rest whole ∙ rw (kind-long word long) refl)
fault-is place bytes fault (letter_after _ at _ text rest number h fits ends letter spelled there) =
    ap (token_first place) spelled ∙ (number_cut place text rest number h ∙ (number-letter place text rest number h fits ends letter ∙ ap (λ n. Err (faults.BadToken n)) (sym there)))
fault-is place bytes fault (large _ _ text rest number h too_large ends spelled) =
    ap (token_first place) spelled ∙ (number_cut place text rest number h ∙ number-large place text rest number h too_large ends)
fault-is place bytes fault (lone_minus _ _ rest none spelled) = ap (token_first place) spelled ∙ (number_chosen place 45 rest refl refl ∙ lone-minus place rest none)
fault-is place bytes fault (unclosed _ _ text spelled) = ap (token_first place) spelled ∙ (quote_chosen place _ ∙ rw (quoted_first-unclosed text) refl)
fault-is place bytes fault (no_day _ _ word remaining blanks text rest opens none spelled) =
    ap (token_first place) spelled ∙ (day_cut place word remaining blanks text rest opens ∙ day_missing place _ text _ none)
fault-is place bytes fault (stray _ byte _ rest h spelled) =
    ap (token_first place) spelled ∙ (sign_chosen place byte rest h.letter (rw h.digit h.minus) h.quote ∙ rw (no_sign byte rest h.sign h.longer) refl)
