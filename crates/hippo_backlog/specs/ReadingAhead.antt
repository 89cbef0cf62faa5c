-- The entries that were read before they are used.
use Rattle.std.specs.Prelude.{◌≡◌, ℕ, ◌+◌, ◌<◌, ◌≤◌, Bool, ◌&&◌, ◌||◌, [], ◌∷◌, ◌++◌, map, filter, length, drop, nat_lt, nat_le, slice_get, is_some, if◌then◌else◌, ⊤}
use Rattle.hippo_model.specs.declared.entry.Entry.{Entry}
use Rattle.hippo_model.specs.Terms.{History}
use Rattle.hippo_model.specs.StoredForms.{stored}
use Rattle.hippo_model.specs.Versions.{versions}
use Rattle.hippo_keeper.specs.Keeping.{Store, RisesAbove, last_number}
use Rattle.hippo_keeper.specs.Selecting.{stored_versions}

pub record ReadAhead : Type 0 where
  -- the entries that were handed over last and are not used yet
  pub waiting : Store
  -- the number up to which all requested entries are read
  pub reached : ℕ
  -- the total number of versions that were handed over
  pub handed : ℕ

abbrev pub nothing_read : ReadAhead
nothing_read = record { waiting = []; reached = 0; handed = 0 }

-- the first entry is used
abbrev pub without_first : ReadAhead → ReadAhead
without_first ahead = record ahead { waiting = drop 1 ahead.waiting }

-- the number up to which everything is read after a batch: its last one, or the end if the batch is
-- shorter than requested
abbrev pub reached_by : ℕ → ℕ → Store → ℕ → ℕ
reached_by max end piece reached =
    let last = last_number reached piece in
    if nat_lt (length piece) max && nat_lt last end then end else last

-- a batch of at most `max` entries is handed over from a history of length `end`
abbrev pub with_piece : ℕ → ℕ → Store → ReadAhead → ReadAhead
with_piece max end piece ahead = record {
  waiting = piece;
  reached = reached_by max end piece ahead.reached;
  handed = ahead.handed + stored_versions piece;
}

-- the numbers of entries are at most this one
abbrev pub AreUpTo : ℕ → History → Type 0
AreUpTo number [] = ⊤
AreUpTo number (entry ∷ rest) = (entry.seq ≤ number) × AreUpTo number rest

-- the first stored entry, if there is one, has a number above this
abbrev pub BeginsAbove : ℕ → Store → Type 0
BeginsAbove number [] = ⊤
BeginsAbove number (entry ∷ rest) = number < entry.seq

-- everything up to a number is read, or some entry waits
abbrev pub has_read : ℕ → ReadAhead → Bool
has_read number ahead = nat_le number ahead.reached || is_some (slice_get ahead.waiting 0)

-- the state of reading ahead in a history: of the entries that pass a test, those up to a place are
-- used, some wait, and those above the number that is reached are not read yet
pub record IsAhead (test : Entry → Bool) (place : ℕ) (ahead : ReadAhead) (history : History)
    : Type 0 where
  pub used : History
  pub waiting : History
  pub later : History
  pub parts : filter test history ≡ used ++ (waiting ++ later)
  pub forms : ahead.waiting ≡ map stored waiting
  pub used_up_to : AreUpTo place used
  pub left_above : RisesAbove place (map stored (waiting ++ later))
  pub read_up_to : AreUpTo ahead.reached waiting
  pub later_above : RisesAbove ahead.reached (map stored later)
  pub place_is_read : place ≤ ahead.reached
  pub reached_within : ahead.reached ≤ length history
  pub counted : ahead.handed ≡ versions (used ++ waiting)
