-- The results of computing a digest over the stored entries, one piece after another.
use Rattle.std.specs.Prelude.{◌≡◌, ℕ, ◌+◌, ◌-◌, ◌<◌, ◌≤◌, Bool, true, false, [], ◌++◌, length, take, Result, Ok, IfOk}
use Rattle.hippo_keeper.specs.Keeping.{Store, last_number, KeeperState}
use Rattle.hippo_keeper.specs.Selecting.{HandsOver}
use Rattle.hippo_keeper.specs.declared.faults.KeeperFault.{KeeperFault}
use Rattle.hippo_history_top.specs.declared.digest.Chain.{Chain}
use Rattle.hippo_history_top.specs.Digests.{no_digest, digest_after}
use Rattle.hippo_history_top.specs.Progress.{IsReadUpTo}

-- before any entry
abbrev pub empty_chain : Chain
empty_chain = record { count = 0; number = 0; digest = no_digest }

-- the digest goes on over these entries
pub record CoversEntries (entries : Store) (old new : Chain) : Type 0 where
  pub counted : new.count ≡ old.count + length entries
  pub last : new.number ≡ last_number old.number entries
  pub digested : new.digest ≡ digest_after old.digest entries

-- a piece, the first entries of the rest, is read, and the digest goes on over it; at most `last`
-- entries are covered
pub record DigestsNext (last : ℕ) (result : Result Bool KeeperFault) (before after : KeeperState)
    (old new : Chain) (ticks ticks' : ℕ) : Type 0 where
  pub piece : Store
  pub hands : HandsOver result piece before after ticks ticks'
  pub covers : CoversEntries piece old new
  pub within : new.count ≤ last
  pub more : result ≡ Ok true → old.count < new.count
  pub told : after.tells → (read rest : Store) → IsReadUpTo old.number before read rest
      → ((remaining : Store) × (rest ≡ piece ++ remaining))
  pub nothing : result ≡ Ok false → piece ≡ []
  pub ended : result ≡ Ok false → after.tells → (read rest : Store)
      → IsReadUpTo old.number before read rest → take (last - old.count) rest ≡ []

-- the first part of the stored list is read, and the digest covers it
pub record IsDigesting (last : ℕ) (before now : KeeperState) (chain : Chain) (ticks ticks' : ℕ)
    : Type 0 where
  pub read : Store
  pub hands : HandsOver {A = Unit {0}} (Ok tt) read before now ticks ticks'
  pub covers : CoversEntries read empty_chain chain
  pub within : chain.count ≤ last
  pub told : now.tells → ((remaining : Store) × (before.kept ≡ read ++ remaining))

-- the digest covers the first `last` entries of the stored list, or a call on the keeper failed
pub record DigestsAll (last : ℕ) (result : Result Chain KeeperFault) (before after : KeeperState)
    (ticks ticks' : ℕ) : Type 0 where
  pub read : Store
  pub hands : HandsOver result read before after ticks ticks'
  pub told : after.tells → ((remaining : Store) × (before.kept ≡ read ++ remaining))
  pub whole : IfOk result (λ chain. after.tells → CoversEntries (take last before.kept) empty_chain chain)
