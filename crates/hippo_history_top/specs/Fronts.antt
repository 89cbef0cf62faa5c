-- The results of copying the first stored entries, one piece after another.
use Rattle.std.specs.Prelude.{◌≡◌, ℕ, ◌-◌, ◌≤◌, Bool, true, false, [], ◌++◌, length, take, Result, Ok, IfOk, OnOk}
use Rattle.hippo_keeper.specs.Keeping.{Store, RisesAbove, last_number, KeeperState}
use Rattle.hippo_keeper.specs.Selecting.{HandsOver}
use Rattle.hippo_keeper.specs.declared.faults.KeeperFault.{KeeperFault}
use Rattle.hippo_history_top.specs.declared.front.Front.{Front}
use Rattle.hippo_history_top.specs.Progress.{IsReadUpTo}

-- a piece, the first entries of the rest, is read and copied after the entries so far; at most
-- `count` entries are copied
pub record CopiesNext (count : ℕ) (result : Result Bool KeeperFault) (before after : KeeperState)
    (old new : Front) (ticks ticks' : ℕ) : Type 0 where
  pub piece : Store
  pub hands : HandsOver result piece before after ticks ticks'
  pub order : RisesAbove old.number piece
  pub few : length piece ≤ count - length old.entries.items
  pub longer : OnOk result (new.entries.items ≡ old.entries.items ++ piece)
  pub last : OnOk result (new.number ≡ last_number old.number piece)
  pub more : result ≡ Ok true → ¬ (piece ≡ [])
  pub told : after.tells → (read rest : Store) → IsReadUpTo old.number before read rest
      → ((remaining : Store) × (rest ≡ piece ++ remaining))
  pub nothing : result ≡ Ok false → piece ≡ []
  pub ended : result ≡ Ok false → after.tells → (read rest : Store)
      → IsReadUpTo old.number before read rest
      → take (count - length old.entries.items) rest ≡ []

-- the first part of the stored list is read and copied
pub record IsCopying (count : ℕ) (before now : KeeperState) (front : Front) (ticks ticks' : ℕ)
    : Type 0 where
  pub hands : HandsOver {A = Unit {0}} (Ok tt) front.entries.items before now ticks ticks'
  pub last : last_number 0 front.entries.items ≡ front.number
  pub order : RisesAbove 0 front.entries.items
  pub within : length front.entries.items ≤ count
  pub told : now.tells
      → ((remaining : Store) × (before.kept ≡ front.entries.items ++ remaining))

-- the first `count` entries of the stored list are copied, or a call on the keeper failed, or memory
-- ran out
pub record CopiesFront (count : ℕ) (result : Result Store KeeperFault)
    (before after : KeeperState) (ticks ticks' : ℕ) : Type 0 where
  pub read : Store
  pub hands : HandsOver result read before after ticks ticks'
  pub told : after.tells → ((remaining : Store) × (before.kept ≡ read ++ remaining))
  pub order : IfOk result (RisesAbove 0)
  pub whole : IfOk result (λ list. after.tells → list ≡ take count before.kept)
