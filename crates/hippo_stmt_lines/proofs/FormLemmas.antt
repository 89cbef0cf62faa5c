-- What is known of a line that makes a statement.
use Rattle.std.proofs.Common.{◌≡◌, ◌≢◌, ℕ, ◌+◌, ◌-◌, ◌<◌, Bool, true, false, List, [], ◌∷◌, length, Option, Some, None, option_map, if◌then◌else◌, codes, bytes_eq, refl, sym, ap, ◌∙◌, arith}
use Rattle.std.specs.Prelude.{nat_lt}
use Rattle.std.specs.Bool.{then_some}
use Rattle.std.specs.List.{position_or_len, before_first, after_first}
use Rattle.std.proofs.lemmas.Bool.{ltb-true}
use Rattle.std.proofs.lemmas.List.{length-drop}
use Rattle.hippo_values.specs.Texts.{Txt, is_space}
use Rattle.hippo_values.specs.Names.{lower_case}
use Rattle.hippo_stmt_lines.specs.declared.short_words.ShortWord.{ShortWord}
use Rattle.hippo_values.specs.Limits.{session_limit}
use Rattle.hippo_values.specs.Options.{◌>>=◌}
use Rattle.hippo_stmt_lines.specs.Words.{words_of, split_at_space, only}
use Rattle.hippo_stmt_lines.specs.Numbers.{numeral_value}
use Rattle.hippo_stmt_lines.specs.Forms.{Request, Form, says_nothing, sets_clock, makes_request, makes_statement, short_word_of, request_by, form_in, form_with, session_form, at_of, is_silent, form_by, line_form}

-- the text of a statement
abbrev text_in : Option Form → Txt
text_in (Some (makes_statement session text)) = text
text_in _ = []

-- the statement is all of the text after the session's number, and has a word
record IsStated (remaining text : Txt) : Type 0 where
  whole : remaining ≡ text
  filled : words_of text ≢ []

stated : (session number : ℕ) (remaining text : Txt) (words : List Txt) → words_of remaining ≡ words → form_with number remaining words ≡ Some (makes_statement session text) → IsStated remaining text
stated session number remaining text [] are found = let nothing : None ≡ Some (makes_statement session text) = found in cc
stated session number remaining text (word ∷ words) are found = by_word (short_word_of word) found
  where
    by_request : (request : Option Request) → option_map (makes_request number) request ≡ Some (makes_statement session text) → IsStated remaining text
    by_request None e = let nothing : None ≡ Some (makes_statement session text) = e in cc
    by_request (Some request) e = let other : Some (makes_request number request) ≡ Some (makes_statement session text) = e in cc

    by_word : (short : Option ShortWord) → form_in number remaining short words ≡ Some (makes_statement session text) → IsStated remaining text
    by_word (Some short) e = by_request (request_by short remaining words) e
    by_word None e =
        let whole : remaining ≡ text = ap text_in e in
        record { whole = whole; filled = λ none. let some : word ∷ words ≡ [] = sym are ∙ (ap words_of whole ∙ none) in cc }

after_session : (session : ℕ) (first remaining text : Txt) → session_form first remaining ≡ Some (makes_statement session text) → IsStated remaining text
after_session session first remaining text found = by_number (numeral_value 0 session_limit first) found
  where
    by_number : (number : Option ℕ) → (number >>= λ n. form_with n remaining (words_of remaining)) ≡ Some (makes_statement session text) → IsStated remaining text
    by_number None e = let nothing : None ≡ Some (makes_statement session text) = e in cc
    by_number (Some number) e = stated session number remaining text (words_of remaining) refl e

after_first_word : (session : ℕ) (first remaining text : Txt) → form_by first remaining ≡ Some (makes_statement session text) → IsStated remaining text
after_first_word session first remaining text found = by_at (bytes_eq (codes "at") (lower_case first)) found
  where
    by_moment : (moment : Option Txt) → (moment >>= λ m. Some (sets_clock m)) ≡ Some (makes_statement session text) → IsStated remaining text
    by_moment None e = let nothing : None ≡ Some (makes_statement session text) = e in cc
    by_moment (Some moment) e = let other : Some (sets_clock moment) ≡ Some (makes_statement session text) = e in cc

    by_at : (at : Bool) → (if at then at_of remaining else session_form first remaining) ≡ Some (makes_statement session text) → IsStated remaining text
    by_at true e = by_moment (only (words_of remaining)) e
    by_at false e = after_session session first remaining text e

-- a statement is shorter than its line, and has a word
pub makes_statement-within : (line text : Txt) (session : ℕ) → line_form line ≡ Some (makes_statement session text) → (length text < length line) × (words_of text ≢ [])
makes_statement-within line text session found = by_silence (is_silent line) found
  where
    by_space : (space : Bool) → nat_lt (position_or_len is_space line) (length line) ≡ space
        → (then_some space (before_first is_space line, after_first is_space line) >>= λ (first, rest). form_by first rest) ≡ Some (makes_statement session text)
        → (length text < length line) × (words_of text ≢ [])
    by_space false there e = let nothing : None ≡ Some (makes_statement session text) = e in cc
    by_space true there e =
        let is = after_first_word session (before_first is_space line) (after_first is_space line) text e in
        let place : position_or_len is_space line < length line = ltb-true _ _ there in
        let count : length (after_first is_space line) ≡ length line - (position_or_len is_space line + 1) = length-drop (position_or_len is_space line + 1) line in
        (rw (← is.whole, count) (omega arith), is.filled)

    by_silence : (silent : Bool) → (if silent then Some says_nothing else (split_at_space line >>= λ (first, rest). form_by first rest)) ≡ Some (makes_statement session text)
        → (length text < length line) × (words_of text ≢ [])
    by_silence true e = let other : Some says_nothing ≡ Some (makes_statement session text) = e in cc
    by_silence false e = by_space (nat_lt (position_or_len is_space line) (length line)) refl e
