-- What taking in stored entries does to a state.
use Rattle.std.specs.Prelude.{◌≡◌, ◌≢◌, ℕ, ◌+◌, true, false, [], ◌∷◌, ◌++◌, length, map, Result, Err, OnOk}
use Rattle.hippo_model.specs.declared.entry.Entry.{Entry}
use Rattle.hippo_model.specs.Terms.{History}
use Rattle.hippo_model.specs.StoredForms.{stored}
use Rattle.hippo_model.specs.Stores.{IsDamagedAt}
use Rattle.hippo_model.specs.Validity.{may_follow}
use Rattle.hippo_keeper.specs.Keeping.{Store}
use Rattle.hippo_typing.specs.Meanings.{meaning}
use Rattle.hippo_replay.specs.declared.faults.LoadFault.{LoadFault}
use Rattle.hippo_replay.specs.declared.faults.LoadFault.TheVariants.{Keeper, Damaged}
use Rattle.hippo_replay.specs.declared.state.State.{State}
use Rattle.hippo_replay.specs.Standing.{Represents}

-- a state stands for a history with these stored forms
pub record HasLoaded (state : State) (store : Store) : Type 0 where
  pub history : History
  pub forms : map stored history ≡ store
  pub stands : Represents state history

-- stored entries are taken in after the ones so far; or the whole list is damaged at a place,
-- whatever follows
pub record TakesIn {A : Type 0} (piece : Store) (result : Result A LoadFault) (old new : State)
    : Type 0 where
  pub ok : OnOk result ((store : Store) → HasLoaded old store → HasLoaded new (store ++ piece))
  pub damaged : (place : ℕ) → result ≡ Err (Damaged place) → (store rest : Store)
      → HasLoaded old store
      → IsDamagedAt meaning (store ++ (piece ++ rest)) place
  pub unfailed : result ≢ Err Keeper

-- an entry is taken in after the ones so far, or may not follow them
pub record Follows {A : Type 0} (entry : Entry) (result : Result A LoadFault) (old new : State)
    : Type 0 where
  pub ok : OnOk result ((history : History) → Represents old history
      → (may_follow meaning history entry ≡ true) × Represents new (history ++ entry ∷ []))
  pub damaged : (place : ℕ) → result ≡ Err (Damaged place) → (history : History)
      → Represents old history
      → (may_follow meaning history entry ≡ false) × (place ≡ length history + 1)
  pub unfailed : result ≢ Err Keeper
