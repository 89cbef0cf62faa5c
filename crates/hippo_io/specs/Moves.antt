-- How a line reader moves from one line to the next.
use Rattle.std.specs.Prelude.{◌≡◌, ℕ, ◌+◌, ◌-◌, ◌<◌, ◌≤◌, min, ⊤, true, IsTrue, IsFalse, List, [], ◌∷◌, ◌++◌, length, take, drop, slice_index, Option, Some, None}
use Rattle.hippo_values.specs.Limits.{line_limit}
use Rattle.hippo_io.specs.Lines.{LineText, too_long_line, line_feed, feeds}
use Rattle.hippo_io.specs.Position.{Position}
use Rattle.hippo_io.specs.HandingOut.{input_limit, bytes_handed_out, HasHandedOut, HasGivenUp}
use Rattle.hippo_io.specs.Inputs.{ReadSoFar}
use Rattle.hippo_io.specs.Told.{TakesAfter}
use Rattle.hippo_io.specs.declared.lines.Found.{Found}
use Rattle.hippo_io.specs.declared.lines.Found.TheVariants.{Whole, Rest, Skipped}
use Rattle.hippo_io.specs.declared.lines.LineFault.{LineFault}

-- the bytes begin with n bytes and the first line feed
pub record BeginsWithLine (bytes : List ℕ) (n : ℕ) : Type 0 where
  pub inside : n < length bytes
  pub before : feeds (take n bytes) ≡ 0
  pub feed : slice_index bytes n ≡ line_feed

-- not at the end of the input, and not stopped by a fault
pub record IsGoing (reader : Position) : Type 0 where
  pub unended : IsFalse reader.ended
  pub unfailed : reader.failure ≡ None

-- n more bytes wait
pub record Refills (before after : Position) (left_before left_after : Option (List ℕ)) (n : ℕ)
    : Type 0 where
  pub going : IsGoing after
  pub waiting : TakesAfter left_before left_after n before.waiting after.waiting
  pub front : take (length before.waiting) after.waiting ≡ before.waiting
  pub count : length after.waiting ≡ length before.waiting + n
  pub taken : after.taken ≡ before.taken + n
  pub limit : after.taken ≤ input_limit

-- the new one holds what is left of the old one without its first n bytes, if that is known
abbrev pub Loses : Option (List ℕ) → Option (List ℕ) → ℕ → Type 0
Loses old new n = (told : List ℕ) → old ≡ Some told → (n ≤ length told) × (new ≡ Some (drop n told))

-- the read failed; of the bytes up to the limit, none was read
pub record FailsToRefill (before after : Position) (left_before left_after : Option (List ℕ))
    (fault : LineFault)
    : Type 0 where
  pub failure : after.failure ≡ Some fault
  pub limit : min after.taken input_limit ≡ before.taken
  pub later : before.taken ≤ after.taken
  pub left : Loses left_before left_after (after.taken - before.taken)

-- the lines returned so far stay the same
abbrev pub KeepsHandedOut : Position → Position → Option (List ℕ) → Option (List ℕ) → Type 0
KeepsHandedOut before after left_before left_after = (input : List ℕ) (handed : List LineText)
    → HasHandedOut input handed before left_before → HasHandedOut input handed after left_after

-- one more line, which is too long, is returned
abbrev pub SkipsLine : Position → Position → Option (List ℕ) → Option (List ℕ) → Type 0
SkipsLine before after left_before left_after = (input : List ℕ) (handed : List LineText)
    → HasHandedOut input handed before left_before
    → HasHandedOut input (handed ++ too_long_line ∷ []) after left_after

-- the reader gives up, for all lines returned so far
abbrev pub GivesUp : Position → Position → Option (List ℕ) → Option (List ℕ) → Type 0
GivesUp before after left_before left_after = (input : List ℕ) (handed : List LineText)
    → HasHandedOut input handed before left_before → HasGivenUp input handed after left_after

-- a whole line waits
pub record FindsWhole (before after : Position) (left_before left_after : Option (List ℕ)) (n : ℕ)
    : Type 0 where
  pub going : IsGoing after
  pub kept : KeepsHandedOut before after left_before left_after
  pub line : BeginsWithLine after.waiting n
  pub short : n ≤ line_limit
  pub same : bytes_handed_out after ≡ bytes_handed_out before

-- the input ends after the waiting bytes
pub record FindsRest (before after : Position) (left_before left_after : Option (List ℕ))
    : Type 0 where
  pub going : IsGoing after
  pub kept : KeepsHandedOut before after left_before left_after
  pub end : (input : List ℕ) (handed : List LineText) → HasHandedOut input handed before left_before
      → drop after.taken input ≡ []
  pub unfed : feeds after.waiting ≡ 0
  pub short : length after.waiting ≤ line_limit
  pub same : bytes_handed_out after ≡ bytes_handed_out before

-- a line that is too long was skipped
pub record FindsSkipped (before after : Position) (left_before left_after : Option (List ℕ))
    : Type 0 where
  pub unfailed : after.failure ≡ None
  pub skipped : SkipsLine before after left_before left_after
  pub later : bytes_handed_out before < bytes_handed_out after

-- what comes next
abbrev pub FindsNext : Position → Position → Option (List ℕ) → Option (List ℕ) → Found → Type 0
FindsNext before after left_before left_after (Whole n) =
    FindsWhole before after left_before left_after n
FindsNext before after left_before left_after Rest = FindsRest before after left_before left_after
FindsNext before after left_before left_after Skipped =
    FindsSkipped before after left_before left_after

-- the source has ended if the reader has, and else as it had before
pub record EndsTogether (after : Position) (reads reads' : ReadSoFar) : Type 0 where
  pub going : IsFalse after.ended → reads'.ended ≡ reads.ended
  pub over : IsTrue after.ended → reads'.ended ≡ true

-- whether the source has ended, by what the reader found
abbrev pub FindsEnd : Found → Position → ReadSoFar → ReadSoFar → Type 0
FindsEnd (Whole n) after reads reads' = reads'.ended ≡ reads.ended
FindsEnd Rest after reads reads' = reads'.ended ≡ true
FindsEnd Skipped after reads reads' = EndsTogether after reads reads'

-- what was found is no longer than a line may be
abbrev pub IsShortEnough : Found → Position → Type 0
IsShortEnough (Whole n) after = BeginsWithLine after.waiting n × (n ≤ line_limit)
IsShortEnough Rest after = length after.waiting ≤ line_limit
IsShortEnough Skipped after = ⊤
