-- The tokens of a text: how each is spelled, that each is the longest possible, and which fault a
-- text without tokens has.
use Rattle.std.specs.Prelude.{◌≡◌, ℕ, ◌+◌, ◌<◌, true, false, List, [], ◌∷◌, ◌++◌, length, ℤ, pos, neg_ℤ, IsCharBoundary, Some, None, Result, Ok, Err}
use Rattle.std.specs.List.{list_all}
use Rattle.std.specs.Char.{is_ascii_alphabetic, is_ascii_digit}
use Rattle.std.specs.Str.Parse.{digits_value}
use Rattle.hippo_values.specs.Names.{lower_case, unsupported_words, is_among, is_word_byte, is_word, is_name, keyword_of}
use Rattle.hippo_values_text.specs.Dates.{IsDayText}
use Rattle.hippo_values.specs.Limits.{name_limit}
use Rattle.hippo_values.specs.Moments.{IsSignedNumber}
use Rattle.hippo_values.specs.declared.keywords.Keyword.{Keyword}
use Rattle.hippo_values.specs.declared.keywords.Keyword.TheVariants.{KDate}
use Rattle.hippo_lexer.specs.declared.kinds.Symbol.{Symbol}
use Rattle.hippo_lexer.specs.declared.kinds.TokenKind.{TokenKind}
use Rattle.hippo_lexer.specs.declared.kinds.TokenKind.TheVariants as kinds
use Rattle.hippo_lexer.specs.declared.kinds.Token.{Token}
use Rattle.hippo_lexer.specs.declared.faults.LexFault.{LexFault}
use Rattle.hippo_lexer.specs.declared.faults.LexFault.TheVariants as faults
pub use Rattle.hippo_values_text.specs.Quoting.{quoted_text}
use Rattle.hippo_lexer.specs.Spelling.{is_blank, is_quote, is_minus, begins_with, sign_of, doubled_quotes}

-- a whole word: the text that follows does not continue it
pub record IsWholeWord (word remaining : List ℕ) : Type 0 where
  pub form : is_word word ≡ true
  pub ends : begins_with is_word_byte remaining ≡ false

-- one or more digits
abbrev pub AreDigits : List ℕ → Type 0
AreDigits digits = (0 < length digits) × (list_all is_ascii_digit digits ≡ true)

-- one or more digits, with or without a `-` directly before them, and the number that they write,
-- however large
pub data IsNumber : List ℕ → ℤ → Type 0 where
  plain : (digits : List ℕ) (number : ℤ) → AreDigits digits → number ≡ pos (digits_value 10 digits)
      → IsNumber digits number
  negative : (text digits : List ℕ) (number : ℤ) → AreDigits digits → text ≡ 45 ∷ digits
      → number ≡ neg_ℤ (pos (digits_value 10 digits)) → IsNumber text number

-- a quoted text after any number of blanks; the text that follows does not continue it
pub record IsQuotedAfter (remaining blanks text rest : List ℕ) : Type 0 where
  pub gap : list_all is_blank blanks ≡ true
  pub parts : remaining ≡ blanks ++ (quoted_text text ++ rest)
  pub ends : begins_with is_quote rest ≡ false

-- the word DATE, followed by a quoted text
pub record OpensDay (word remaining blanks text rest : List ℕ) : Type 0 where
  pub whole : IsWholeWord word remaining
  pub date : keyword_of word ≡ Some KDate
  pub quotation : IsQuotedAfter remaining blanks text rest

-- this sign and the next byte do not make a longer sign
abbrev pub IsLongestSign : List ℕ → List ℕ → Type 0
IsLongestSign text rest =
    (byte : ℕ) (more : List ℕ) → rest ≡ byte ∷ more → sign_of (text ++ byte ∷ []) ≡ None

-- The text is a token of this kind if `rest` follows it. A token is one of these: a keyword, but
-- DATE only if no quoted text follows it; a word of SQL that hippo refuses; another word of at most
-- 63 bytes; a number that fits, with no digit, letter or `_` after it; a quoted text; DATE with a
-- quoted text that is a day; the longest possible sign.
pub data IsToken : List ℕ → TokenKind → List ℕ → Type 0 where
  a_keyword : (word rest : List ℕ) (keyword : Keyword) → IsWholeWord word rest
      → keyword_of word ≡ Some keyword
      → (keyword ≡ KDate → (blanks text more : List ℕ) → ¬ (IsQuotedAfter rest blanks text more))
      → IsToken word (kinds.Keyword keyword) rest
  a_refused_word : (word rest : List ℕ) → IsWholeWord word rest
      → is_among unsupported_words word ≡ true
      → IsToken word (kinds.Unsupported (lower_case word)) rest
  a_name : (word rest : List ℕ) → IsWholeWord word rest → is_name word ≡ true
      → IsToken word (kinds.Word (lower_case word)) rest
  a_number : (text rest : List ℕ) (number : ℤ) → IsNumber text number → IsSignedNumber number
      → begins_with is_word_byte rest ≡ false → IsToken text (kinds.Number number) rest
  a_quoted_text : (written text rest : List ℕ) → written ≡ quoted_text text
      → begins_with is_quote rest ≡ false
      → IsToken written (kinds.Quoted text) rest
  a_day : (written word remaining blanks text rest : List ℕ) (day : ℤ)
      → OpensDay word remaining blanks text rest
      → IsDayText text day → written ≡ word ++ (blanks ++ quoted_text text)
      → IsToken written (kinds.Day day) rest
  a_sign : (text rest : List ℕ) (sign : Symbol) → sign_of text ≡ Some sign → IsLongestSign text rest
      → IsToken text (kinds.Symbol sign) rest

-- a byte that begins no token
pub record IsStray (byte : ℕ) (rest : List ℕ) : Type 0 where
  pub blank : is_blank byte ≡ false
  pub letter : is_ascii_alphabetic byte ≡ false
  pub digit : is_ascii_digit byte ≡ false
  pub minus : is_minus byte ≡ false
  pub quote : is_quote byte ≡ false
  pub sign : sign_of (byte ∷ []) ≡ None
  pub longer : IsLongestSign (byte ∷ []) rest

-- No token begins this text, which is at the place, for one of these reasons: a word of more than
-- 63 bytes; a letter or `_` directly after a number that fits; a number that does not fit; a `-`
-- without a digit; an opening quote after which every quote up to the end is doubled; DATE with a
-- quoted text that is not a day; a byte that begins no token.
pub data IsFault : ℕ → List ℕ → LexFault → Type 0 where
  long_word : (place : ℕ) (bytes word rest : List ℕ) → IsWholeWord word rest
      → name_limit < length word
      → bytes ≡ word ++ rest → IsFault place bytes (faults.BadToken place)
  letter_after : (place at : ℕ) (bytes text rest : List ℕ) (number : ℤ) → IsNumber text number
      → IsSignedNumber number
      → begins_with is_ascii_digit rest ≡ false → begins_with is_word_byte rest ≡ true
      → bytes ≡ text ++ rest
      → at ≡ place + length text → IsFault place bytes (faults.BadToken at)
  large : (place : ℕ) (bytes text rest : List ℕ) (number : ℤ) → IsNumber text number
      → ¬ (IsSignedNumber number)
      → begins_with is_ascii_digit rest ≡ false → bytes ≡ text ++ rest
      → IsFault place bytes (faults.NumberTooLarge place)
  lone_minus : (place : ℕ) (bytes rest : List ℕ) → begins_with is_ascii_digit rest ≡ false
      → bytes ≡ 45 ∷ rest
      → IsFault place bytes (faults.BadToken place)
  unclosed : (place : ℕ) (bytes text : List ℕ) → bytes ≡ 39 ∷ doubled_quotes text
      → IsFault place bytes (faults.BadToken place)
  no_day : (place : ℕ) (bytes word remaining blanks text rest : List ℕ)
      → OpensDay word remaining blanks text rest
      → ((day : ℤ) → ¬ (IsDayText text day)) → bytes ≡ word ++ remaining
      → IsFault place bytes (faults.BadDate place)
  stray : (place byte : ℕ) (bytes rest : List ℕ) → IsStray byte rest → bytes ≡ byte ∷ rest
      → IsFault place bytes (faults.BadToken place)

-- puts a token before the outcome of the rest
abbrev pub with_first_token : Token → Result (List Token) LexFault → Result (List Token) LexFault
with_first_token token (Ok tokens) = Ok (token ∷ tokens)
with_first_token token (Err fault) = Err fault

-- The text, which is at the place, has these tokens, or this is its first fault: blanks are
-- skipped, and then the first token or fault counts.
pub data IsCut : ℕ → List ℕ → Result (List Token) LexFault → Type 0 where
  at_end : (place : ℕ) → IsCut place [] (Ok [])
  at_blank : (place byte : ℕ) (rest : List ℕ) (outcome : Result (List Token) LexFault)
      → is_blank byte ≡ true
      → IsCut (place + 1) rest outcome → IsCut place (byte ∷ rest) outcome
  at_token : (place : ℕ) (bytes text rest : List ℕ) (kind : TokenKind)
      (later outcome : Result (List Token) LexFault)
      → IsToken text kind rest → IsCut (place + length text) rest later → bytes ≡ text ++ rest
      → outcome ≡ with_first_token (record
      { kind = kind; start = place; end = place + length text }) later
      → IsCut place bytes outcome
  at_fault : (place : ℕ) (bytes : List ℕ) (fault : LexFault) → IsFault place bytes fault
      → IsCut place bytes (Err fault)

-- the outcome of a whole text
abbrev pub IsOutcome : List ℕ → Result (List Token) LexFault → Type 0
IsOutcome text outcome = IsCut 0 text outcome

-- this is the text's outcome, and its only one
abbrev pub IsOnlyOutcome : List ℕ → Result (List Token) LexFault → Type 0
IsOnlyOutcome text outcome =
    IsOutcome text outcome × ((other : Result (List Token) LexFault) → IsOutcome text other
    → other ≡ outcome)

-- the token is in the text, and begins and ends at character boundaries
pub record IsSpan (text : List ℕ) (token : Token) : Type 0 where
  pub some : token.start < token.end
  pub from : IsCharBoundary text token.start
  pub to : IsCharBoundary text token.end
