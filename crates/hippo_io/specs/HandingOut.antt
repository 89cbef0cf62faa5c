-- The lines that a line reader has returned from an input.
use Rattle.std.specs.Prelude.{◌≡◌, ℕ, ◌+◌, ◌-◌, ◌^◌, ◌<◌, ◌≤◌, ◌↔◌, min, true, false, IsTrue, IsFalse, List, [], ◌∷◌, ◌++◌, length, take, drop, Option, Some, None, Result, Ok, Err, IfOk, OnErr, IfSome, MatchOption}
use Rattle.std.specs.Result.{result_err}
use Rattle.hippo_io.specs.Lines.{LineText, lines, feeds}
use Rattle.hippo_io.specs.LineTexts.{line_text}
use Rattle.hippo_io.specs.declared.lines.Line.{Line}
use Rattle.hippo_io.specs.declared.lines.Line.TheVariants.{End}
use Rattle.hippo_io.specs.declared.lines.LineFault.{LineFault}
use Rattle.hippo_io.specs.declared.lines.LineFault.TheVariants.{TooMuch}
use Rattle.hippo_io.specs.Inputs.{ReadSoFar, ForEachInput, ReadsMore}
use Rattle.hippo_io.specs.Position.{Position}

-- the most bytes that are read
abbrev pub input_limit : ℕ
input_limit = 2 ^ 40

-- a line reader that has not read yet
abbrev pub at_beginning : Position
at_beginning = record { waiting = []; taken = 0; ended = false; failure = None }

-- the number of bytes that belong to returned lines
abbrev pub bytes_handed_out : Position → ℕ
bytes_handed_out reader = reader.taken - length reader.waiting

-- The reader has returned these lines of the input, and the source is known to hold the bytes that
-- were not read from it.
pub record HasHandedOut (input : List ℕ) (handed : List LineText) (reader : Position)
    (left : Option (List ℕ))
    : Type 0 where
  pub unfailed : reader.failure ≡ None
  pub within : reader.taken ≤ length input
  pub told : left ≡ Some (drop reader.taken input)
  -- the other lines are those of the waiting bytes and the bytes left in the source
  pub others : lines input ≡ handed ++ lines (reader.waiting ++ drop reader.taken input)
  -- until the input ends, each returned line had its line feed
  pub fed : IsFalse reader.ended → feeds (take reader.taken input)
      ≡ length handed + feeds reader.waiting
  -- once the input has ended, no byte waits or is left
  pub at_end : IsTrue reader.ended → reader.waiting ++ drop reader.taken input ≡ []

-- the lines whose line feeds are among the first n bytes
abbrev pub whole_lines : List ℕ → ℕ → List LineText
whole_lines input n = take (feeds (take n input)) (lines input)

-- The reader has given up. The returned lines are those whose line feeds were read, up to the
-- limit.
pub record HasGivenUp (input : List ℕ) (handed : List LineText) (reader : Position)
    (left : Option (List ℕ))
    : Type 0 where
  pub within : reader.taken ≤ length input
  pub told : left ≡ Some (drop reader.taken input)
  pub whole : handed ≡ whole_lines input (min reader.taken input_limit)

-- the line is the next one after those returned before; the end comes after all lines, when the
-- source has no bytes left
abbrev pub HandsOut : List ℕ → List LineText → Line → Position → Option (List ℕ) → Type 0
HandsOut input handed line reader left = MatchOption (line_text line)
    (HasHandedOut input handed reader left × (handed ≡ lines input) × (left ≡ Some []))
    (λ text. HasHandedOut input (handed ++ text ∷ []) reader left)

-- a line has at least one byte
abbrev pub MovesPast : Line → ℕ → ℕ → Type 0
MovesPast line before after = IfSome (line_text line) (λ text. before < after)

-- The effect of a call for the next line on a reader; `left_before` and `left_after` are the bytes
-- in the source, if known.
pub record NextLine (before after : Position) (left_before left_after : Option (List ℕ))
    (result : Result Line LineFault) : Type 0 where
  -- for every input and all lines returned from it before, the result is the next line
  pub line : IfOk result (λ line. (input : List ℕ) (handed : List LineText)
      → HasHandedOut input handed before left_before → HandsOut input handed line after left_after)
  pub gives_up : OnErr result ((input : List ℕ) (handed : List LineText)
      → HasHandedOut input handed before left_before → HasGivenUp input handed after left_after)
  -- a fault is returned again by each later call, and so is the end
  pub failure : after.failure ≡ result_err result
  pub again : (fault : LineFault) → before.failure ≡ Some fault → (result ≡ Err fault)
      × (after ≡ before)
  pub over : before.failure ≡ None → IsTrue before.ended → (result ≡ Ok End) × (after ≡ before)
  -- the fault is `TooMuch` exactly when more bytes were read than the limit
  pub too_much : (result ≡ Err TooMuch) ↔ (input_limit < after.taken)
  pub progress : IfOk result (λ line. MovesPast line (bytes_handed_out before)
      (bytes_handed_out after))

-- The effect of a call for the next line on a reader and its source: it is the next line whatever
-- the input may be, and the source has ended once the reader has.
pub record ReadsNextLine (before after : Position) (left : Option (List ℕ)) (reads : ReadSoFar)
    (left' : Option (List ℕ)) (reads' : ReadSoFar) (result : Result Line LineFault) : Type 0 where
  pub next : ForEachInput left reads left' reads'
      (λ left left'. NextLine before after left left' result)
  pub on : ReadsMore reads reads'
  pub going : IsFalse after.ended → after.failure ≡ None → reads'.ended ≡ reads.ended
  pub over : IsTrue after.ended → after.failure ≡ None → IsFalse before.ended
      → reads'.ended ≡ true
