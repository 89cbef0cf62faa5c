-- What reading the stored entries, piece by piece, does to a state.
use Rattle.std.specs.Prelude.{◌≡◌, ℕ, ◌^◌, ◌<◌, Bool, true, false, [], ◌++◌, Result, Ok, Err, OnOk}
use Rattle.hippo_model.specs.Stores.{IsDamagedAt}
use Rattle.hippo_keeper.specs.Keeping.{Store, RisesAbove, KeeperState}
use Rattle.hippo_keeper.specs.Selecting.{HandsOver}
use Rattle.hippo_keeper.specs.declared.faults.KeeperFault.{KeeperFault}
use Rattle.hippo_keeper.specs.declared.faults.KeeperFault.TheVariants as keeper_faults
use Rattle.hippo_typing.specs.Meanings.{meaning}
use Rattle.hippo_replay.specs.declared.faults.LoadFault.{LoadFault}
use Rattle.hippo_replay.specs.declared.faults.LoadFault.TheVariants.{Keeper, Damaged, Memory}
use Rattle.hippo_replay.specs.declared.state.State.{State}
use Rattle.hippo_replay.specs.Standing.{IsSound}
use Rattle.hippo_replay.specs.TakingIn.{HasLoaded}
use Rattle.hippo_replay.specs.Loading.{load_as_call}

-- a keeper's fault as the fault of a load
abbrev pub load_fault : KeeperFault → LoadFault
load_fault keeper_faults.Failed = Keeper
load_fault keeper_faults.Memory = Memory

-- the stored list is what was loaded, followed by the rest
pub record IsUpTo (state : State) (keeper : KeeperState) (store rest : Store) : Type 0 where
  pub loaded : HasLoaded state store
  pub order : RisesAbove 0 keeper.kept
  pub whole : keeper.kept ≡ store ++ rest

-- a piece, the first entries of the rest, is read and taken in
pub record ReadsPiece (result : Result Bool LoadFault) (before after : KeeperState)
    (old new : State)
    (steps_old steps_new : ℕ) : Type 0 where
  pub piece : Store
  pub hands : HandsOver (load_as_call result) piece before after steps_old steps_new
  pub told : after.tells → (store rest : Store) → IsUpTo old before store rest
      → ((remaining : Store) × (rest ≡ piece ++ remaining))
  pub taken : OnOk result ((store : Store) → HasLoaded old store → HasLoaded new (store ++ piece))
  pub ended : result ≡ Ok false → after.tells → (store rest : Store) → IsUpTo old before store rest
      → rest ≡ []
  pub nothing : result ≡ Ok false → piece ≡ []
  pub goes_on : result ≡ Ok true → (old.count < new.count) × (old.count < 2 ^ 64)
  pub damaged : (place : ℕ) → result ≡ Err (Damaged place) → after.tells → (store rest : Store)
      → IsUpTo old before store rest → IsDamagedAt meaning before.kept place

-- the first part of the stored list is read and taken in
pub record IsReading (before now : KeeperState) (state : State) (steps_old steps_now : ℕ)
    : Type 0 where
  pub read : Store
  pub hands : HandsOver {A = Unit {0}} (Ok tt) read before now steps_old steps_now
  pub sound : IsSound state
  pub loaded : HasLoaded state read
  pub told : now.tells → ((remaining : Store) × (before.kept ≡ read ++ remaining))

-- the whole stored list is read and taken in, or its first part
pub record ReadsAllKept (result : Result (Unit {0}) LoadFault) (before after : KeeperState)
    (state : State)
    (steps_old steps_new : ℕ) : Type 0 where
  pub read : Store
  pub hands : HandsOver (load_as_call result) read before after steps_old steps_new
  pub told : after.tells → ((remaining : Store) × (before.kept ≡ read ++ remaining))
  pub loaded : OnOk result (HasLoaded state read)
  pub whole : OnOk result (after.tells → before.kept ≡ read)
  pub damaged : (place : ℕ) → result ≡ Err (Damaged place) → after.tells
      → IsDamagedAt meaning before.kept place
