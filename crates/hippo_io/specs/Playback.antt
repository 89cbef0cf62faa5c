-- Sources and sinks in memory: bytes, and a list of the calls that fail.
use Rattle.std.specs.Prelude.{ℕ, ◌+◌, Bool, ◌||◌, List, length, nat_lt, ◌==◌, if◌then◌else◌}
use Rattle.std.specs.List.{list_any}
use Rattle.hippo_io.specs.Faults.{next_count}
use Rattle.hippo_io.specs.Inputs.{ReadSoFar}

-- the calls that fail, counted from 1; the number of calls made; the number of faults
pub record Tally : Type 0 where
  pub failing : List ℕ
  pub made : ℕ
  pub faults : ℕ

-- before the first call
abbrev pub new_tally : List ℕ → Tally
new_tally failing = record { failing = failing; made = 0; faults = 0 }

-- whether the next call fails
abbrev pub fails_next : Tally → Bool
fails_next tally = list_any (λ call. call == next_count tally.made) tally.failing

-- after one more call that succeeded
abbrev pub after_call : Tally → Tally
after_call tally = record tally { made = next_count tally.made }

-- after one more fault
abbrev pub after_fault : Tally → Tally
after_fault tally = record tally { faults = next_count tally.faults }

-- a source: its remaining bytes, and what its reads have returned
pub record Playback : Type 0 where
  pub left : List ℕ
  pub reads : ReadSoFar
  pub tally : Tally

-- a sink: the bytes written, and the most that it can hold
pub record Recording : Type 0 where
  pub written : List ℕ
  pub room : ℕ
  pub tally : Tally

-- after one more call; a failed call counts as a fault
abbrev pub tally_after : Bool → Tally → Tally
tally_after failed tally = if failed then after_fault (after_call tally) else after_call tally

-- whether the next write of n bytes fails: its number is listed, or the bytes do not fit
abbrev pub write_fails : Recording → ℕ → Bool
write_fails recording n =
    fails_next recording.tally || nat_lt recording.room (length recording.written + n)
