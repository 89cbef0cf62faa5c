-- Splits a text into tokens, from left to right. The relation `IsOutcome` says what the tokens
-- are. It is proved that each text has exactly one outcome by it, `outcome_of`.
use Rattle.std.specs.Prelude.{◌≡◌, ℕ, zero, suc, ◌+◌, ◌-◌, ◌<◌, ◌==◌, Bool, true, false, ◌||◌, List, [], ◌∷◌, length, take, drop, ℤ, pos, neg_ℤ, ◌++◌, Option, Some, None, Result, Ok, Err, option_map, ok_or, if◌then◌else◌}
use Rattle.std.specs.Bool.{then_some}
use Rattle.std.specs.Option.{option_or, option_map_or}
use Rattle.std.specs.List.{prefix_len, list_all}
use Rattle.std.specs.Char.{is_ascii_alphabetic, is_ascii_digit}
use Rattle.std.specs.Str.Parse.{digits_value}
use Rattle.hippo_values.specs.declared.words.Word.{Word}
use Rattle.hippo_values.specs.declared.words.Word.TheVariants as words
use Rattle.hippo_values.specs.Names.{is_word_byte}
use Rattle.hippo_values.specs.Words.{word_of}
use Rattle.hippo_values_text.specs.Dates.{day_text, written_among}
use Rattle.hippo_values.specs.Moments.{first_day, day_count, is_signed_number}
use Rattle.hippo_values.specs.declared.keywords.Keyword.TheVariants.{KDate}
use Rattle.hippo_values.specs.Results.{◌>>=◌}
use Rattle.hippo_lexer.specs.declared.kinds.Symbol.{Symbol}
use Rattle.hippo_lexer.specs.declared.kinds.TokenKind.{TokenKind}
use Rattle.hippo_lexer.specs.declared.kinds.TokenKind.TheVariants as kinds
use Rattle.hippo_lexer.specs.declared.kinds.Token.{Token}
use Rattle.hippo_lexer.specs.declared.faults.LexFault.{LexFault}
use Rattle.hippo_lexer.specs.declared.faults.LexFault.TheVariants as faults
use Rattle.hippo_lexer.specs.Spelling.{is_blank, is_quote, is_minus, begins_with, sign_of}

-- the result of a call is this fault, unless it ran out of memory
abbrev pub FailsOutcome : {A : Type 0} → LexFault → Result A LexFault → Type 0
FailsOutcome faults.Memory right = Unit {0}
FailsOutcome (faults.BadToken place) right = right ≡ Err (faults.BadToken place)
FailsOutcome (faults.NumberTooLarge place) right = right ≡ Err (faults.NumberTooLarge place)
FailsOutcome (faults.BadDate place) right = right ≡ Err (faults.BadDate place)

abbrev pub GivesOutcome : {A : Type 0} → Result A LexFault → Result A LexFault → Type 0
GivesOutcome (Ok x) right = right ≡ Ok x
GivesOutcome (Err fault) right = FailsOutcome fault right

-- the token of a word
abbrev pub kind_of_word : Word → TokenKind
kind_of_word (words.Name name) = kinds.Word name
kind_of_word (words.Keyword keyword) = kinds.Keyword keyword
kind_of_word (words.Unsupported word) = kinds.Unsupported word

-- the kind of token that a word is; none if the word is too long
abbrev pub word_kind : List ℕ → Option TokenKind
word_kind word = option_map kind_of_word (word_of word)

-- the length of the word, of the digits or of the blanks at the front
abbrev pub word_len : List ℕ → ℕ
word_len bytes = prefix_len is_word_byte bytes

abbrev pub digits_len : List ℕ → ℕ
digits_len bytes = prefix_len is_ascii_digit bytes

abbrev pub blanks_len : List ℕ → ℕ
blanks_len bytes = prefix_len is_blank bytes

-- the first token of a text: its kind and length, or a fault
abbrev pub First : Type 0
First = Result (TokenKind × ℕ) LexFault

-- the number, if it fits in 64 bits
abbrev pub if_in_range : ℤ → Option ℤ
if_in_range number = then_some (is_signed_number number) number

-- the number written by digits, with or without a `-`; none if it does not fit
unfoldable pub number_of : List ℕ → Option ℤ
number_of [] = None
number_of (first ∷ rest) =
    if is_minus first
    then if_in_range (neg_ℤ (pos (digits_value 10 rest)))
    else if_in_range (pos (digits_value 10 (first ∷ rest)))

-- the length of the `-` at the front, and of the number including it
abbrev pub sign_len : List ℕ → ℕ
sign_len bytes = if begins_with is_minus bytes then 1 else 0

abbrev pub number_len : List ℕ → ℕ
number_len bytes = sign_len bytes + digits_len (drop (sign_len bytes) bytes)

-- one or more digits, with or without a `-` before them
abbrev pub IsNumeral : List ℕ → Type 0
IsNumeral bytes =
    (sign_len bytes < length bytes) × (list_all is_ascii_digit (drop (sign_len bytes) bytes) ≡ true)

-- the number at the front
unfoldable pub number_first : ℕ → List ℕ → First
number_first place bytes =
    if number_len bytes == sign_len bytes then Err (faults.BadToken place) else (do
      number ← ok_or (number_of (take (number_len bytes) bytes)) (faults.NumberTooLarge place)
      if begins_with is_word_byte (drop (number_len bytes) bytes)
          then Err (faults.BadToken (place + number_len bytes))
          else Ok (kinds.Number number, number_len bytes))

-- puts `front` before a closed text; `front` is written in n bytes, which add to the length
abbrev pub onto : List ℕ → ℕ → Option (List ℕ × ℕ) → Option (List ℕ × ℕ)
onto front n closed = option_map (λ found. (front ++ found.0, n + found.1)) closed

-- after an opening quote: the text up to the closing quote, and the length including that quote
unfoldable pub closing : List ℕ → Option (List ℕ × ℕ)
closing [] = None
closing (byte ∷ []) = if is_quote byte then Some ([], 1) else None
closing (byte ∷ next ∷ rest) =
    if is_quote byte
    then (if is_quote next then onto (39 ∷ []) 2 (closing rest) else Some ([], 1))
    else onto (byte ∷ []) 1 (closing (next ∷ rest))

-- the quoted text at the front, and its length including the quotes
unfoldable pub quoted_first : List ℕ → Option (List ℕ × ℕ)
quoted_first [] = None
quoted_first (byte ∷ rest) = if is_quote byte then onto [] 1 (closing rest) else None

-- the day that a text writes as YYYY-MM-DD
unfoldable pub day_of : List ℕ → Option ℤ
day_of text = written_among day_text first_day day_count text

-- whether a word is DATE
abbrev pub is_date : TokenKind → Bool
is_date (kinds.Keyword KDate) = true
is_date _ = false

-- the token of DATE with a quoted day; n is the length of the word DATE and the blanks after it
unfoldable pub day_first : ℕ → ℕ → List ℕ × ℕ → First
day_first place n quoted = do
  day ← ok_or (day_of quoted.0) (faults.BadDate place)
  Ok (kinds.Day day, n + quoted.1)

-- the token of the word DATE of n bytes, given the text that follows it
unfoldable pub date_first : ℕ → ℕ → List ℕ → First
date_first place n remaining =
    option_map_or (day_first place (n + blanks_len remaining))
    (quoted_first (drop (blanks_len remaining) remaining))
    (Ok (kinds.Keyword KDate, n))

-- the token of the word at the front
unfoldable pub word_first : ℕ → List ℕ → First
word_first place bytes = do
  kind ← ok_or (word_kind (take (word_len bytes) bytes)) (faults.BadToken place)
  if is_date kind then date_first place (word_len bytes) (drop (word_len bytes) bytes)
      else Ok (kind, word_len bytes)

-- the longest sign at the front, and its length
unfoldable pub sign_first : List ℕ → Option (Symbol × ℕ)
sign_first bytes =
    option_or (option_map (λ sign. (sign, length (take 2 bytes))) (sign_of (take 2 bytes)))
    (option_map (λ sign. (sign, length (take 1 bytes))) (sign_of (take 1 bytes)))

-- the token of the quoted text or of the sign at the front
abbrev pub quoted_token : ℕ → List ℕ → First
quoted_token place bytes =
    ok_or (quoted_first bytes) (faults.BadToken place) >>=
    λ found. Ok (kinds.Quoted found.0, found.1)

abbrev pub sign_token : ℕ → List ℕ → First
sign_token place bytes =
    ok_or (sign_first bytes) (faults.BadToken place) >>= λ found. Ok (kinds.Symbol found.0, found.1)

-- the first token of a text that does not begin with a blank
unfoldable pub token_first : ℕ → List ℕ → First
token_first place bytes =
    if begins_with is_ascii_alphabetic bytes then word_first place bytes else
    (if begins_with is_ascii_digit bytes || begins_with is_minus bytes then number_first place bytes
    else
    (if begins_with is_quote bytes then quoted_token place bytes else sign_token place bytes))

-- puts tokens before others
abbrev pub with_front_tokens : List Token → Result (List Token) LexFault
    → Result (List Token) LexFault
with_front_tokens tokens others = others >>= λ more. Ok (tokens ++ more)

-- the tokens of the text at `place` after its first `skip` bytes, or the first fault
unfoldable pub tokens_from : ℕ → ℕ → List ℕ → Result (List Token) LexFault
tokens_from place skip [] = Ok []
tokens_from place (suc skip) (byte ∷ rest) = tokens_from (place + 1) skip rest
tokens_from place zero (byte ∷ rest) =
    if is_blank byte then tokens_from (place + 1) 0 rest else (do
      found ← token_first place (byte ∷ rest)
      with_front_tokens (record { kind = found.0; start = place; end = place + found.1 } ∷ [])
          (tokens_from (place + 1) (found.1 - 1) rest))

-- the tokens of a whole text, or its first fault
unfoldable pub outcome_of : List ℕ → Result (List Token) LexFault
outcome_of text = tokens_from 0 0 text
