-- Splits an input into lines.
use Rattle.std.specs.Prelude.{ℕ, List, [], ◌∷◌, map, length, count_by, ◌==◌, nat_lt, if◌then◌else◌}
use Rattle.std.specs.Str.{is_utf8}
use Rattle.std.specs.Io.BufRead.{strip_last}
use Rattle.hippo_values.specs.Limits.{line_limit}

-- the byte that ends a line
abbrev pub line_feed : ℕ
line_feed = 10

-- the byte that is dropped at a line's end
abbrev pub carriage_return : ℕ
carriage_return = 13

-- puts the byte in front of the first piece
abbrev pub with_first_byte : ℕ → List (List ℕ) → List (List ℕ)
with_first_byte byte [] = (byte ∷ []) ∷ []
with_first_byte byte (piece ∷ others) = (byte ∷ piece) ∷ others

-- the pieces before the line feeds; the bytes after the last line feed, if any, are a last piece
abbrev pub pieces : List ℕ → List (List ℕ)
pieces [] = []
pieces (byte ∷ bytes) =
    if byte == line_feed then [] ∷ pieces bytes else with_first_byte byte (pieces bytes)

-- a line: its bytes, or why it is not a text
pub data LineText : Type 0 where
  text_line : List ℕ → LineText
  too_long_line : LineText
  not_utf8_line : LineText

-- the line of these bytes: their text if they are UTF-8
abbrev pub text_or_not : List ℕ → LineText
text_or_not bytes = if is_utf8 bytes then text_line bytes else not_utf8_line

-- the line of a piece; one carriage return at its end is dropped, but counts for the limit
abbrev pub line_of : List ℕ → LineText
line_of piece =
    if nat_lt line_limit (length piece) then too_long_line
    else text_or_not (strip_last carriage_return piece)

-- the lines of an input
abbrev pub lines : List ℕ → List LineText
lines input = map line_of (pieces input)

-- the number of line feeds
abbrev pub feeds : List ℕ → ℕ
feeds bytes = count_by (λ byte. byte == line_feed) bytes
