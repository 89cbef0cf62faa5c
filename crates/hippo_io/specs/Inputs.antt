-- What the input of a source may be, whether or not the proof knows the bytes that are left.
use Rattle.std.specs.Prelude.{◌≡◌, ◌⊎◌, ℕ, ⊤, Bool, false, ◌||◌, ◌&&◌, ◌==◌, nat_lt, IsTrue, IsFalse, List, [], ◌++◌, length, take, drop, Option, Some}

-- the bytes that the reads of a source have returned so far, and whether a read found the end
pub record ReadSoFar : Type 0 where
  pub bytes : List ℕ
  pub ended : Bool

-- a source from which nothing was read yet
abbrev pub unread : ReadSoFar
unread = record { bytes = []; ended = false }

-- after a read that returned n bytes at the front of a buffer: none into a buffer with room is the
-- end
abbrev pub after_read : ReadSoFar → ℕ → List ℕ → ReadSoFar
after_read reads n buffer =
    record {
      bytes = reads.bytes ++ take n buffer;
      ended = reads.ended || (n == 0 && nat_lt 0 (length buffer));
    }

-- a list may be all that a source ever returns: it begins with the bytes returned so far, and has no
-- more if a read found the end
pub record MayBeWhole (whole : List ℕ) (reads : ReadSoFar) : Type 0 where
  pub rest : List ℕ
  pub begins : whole ≡ reads.bytes ++ rest
  pub at_end : IsTrue reads.ended → rest ≡ []

-- what a clause takes for the input: the bytes that the source exposes, or a list that may be all
-- that it ever returns
pub data InputView : Type 0 where
  exposed : InputView
  assumed : List ℕ → InputView

-- the bytes that are left by a view of the input
abbrev pub left_in : InputView → Option (List ℕ) → ReadSoFar → Option (List ℕ)
left_in exposed left reads = left
left_in (assumed whole) left reads = Some (drop (length reads.bytes) whole)

-- a view agrees with what was read between two states of a source that had not ended
abbrev pub FitsInput : InputView → ReadSoFar → ReadSoFar → Type 0
FitsInput exposed before after = ⊤
FitsInput (assumed whole) before after =
    IsFalse before.ended × MayBeWhole whole after

-- a view agrees with what a line reader read between two states of its source: if the source had
-- ended, so had the reader
abbrev pub FitsReading : InputView → Bool → ReadSoFar → ReadSoFar → Type 0
FitsReading exposed is_over before after = ⊤
FitsReading (assumed whole) is_over before after =
    (IsFalse before.ended ⊎ IsTrue is_over) × MayBeWhole whole after

-- this holds of the bytes left before and after, whatever the input may be
abbrev pub ForEachInput : Option (List ℕ) → ReadSoFar → Option (List ℕ) → ReadSoFar
    → (Option (List ℕ) → Option (List ℕ) → Type 0) → Type 0
ForEachInput left reads left' reads' holds =
    (input : InputView) → FitsInput input reads reads'
    → holds (left_in input left reads) (left_in input left' reads')

-- the same for a line reader that may have ended
abbrev pub ForEachReading : Bool → Option (List ℕ) → ReadSoFar → Option (List ℕ) → ReadSoFar
    → (Option (List ℕ) → Option (List ℕ) → Type 0) → Type 0
ForEachReading is_over left reads left' reads' holds =
    (input : InputView) → FitsReading input is_over reads reads'
    → holds (left_in input left reads) (left_in input left' reads')

-- the reads returned more bytes, or none
pub record ReadsMore (before after : ReadSoFar) : Type 0 where
  pub more : List ℕ
  pub bytes : after.bytes ≡ before.bytes ++ more
