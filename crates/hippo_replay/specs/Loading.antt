-- What a load does, by what it answers.
use Rattle.std.specs.Prelude.{◌≡◌, ℕ, ◌+◌, ◌≤◌, Bool, true, false, not, ◌&&◌, List, map, Result, Ok, Err, IfOk}
use Rattle.hippo_model.specs.Terms.{History}
use Rattle.hippo_model.specs.StoredForms.{stored}
use Rattle.hippo_model.specs.Stores.{IsStoreOf, IsDamagedAt}
use Rattle.hippo_model.specs.Versions.{versions}
use Rattle.hippo_keeper.specs.declared.faults.KeeperFault.{KeeperFault}
use Rattle.hippo_keeper.specs.declared.faults.KeeperFault.TheVariants as keeper_faults
use Rattle.hippo_keeper.specs.Answering.{is_out_of_memory}
use Rattle.hippo_keeper.specs.Keeping.{Store, Survivors, RisesAbove, KeeperState, IsAfterCall}
use Rattle.hippo_keeper.specs.Selecting.{stored_versions}
use Rattle.hippo_keeper.specs.Telling.{HasOpened}
use Rattle.hippo_typing.specs.Meanings.{meaning}
use Rattle.hippo_replay.specs.declared.faults.LoadFault.{LoadFault}
use Rattle.hippo_replay.specs.declared.faults.LoadFault.TheVariants.{Keeper, Damaged, Memory}
use Rattle.hippo_replay.specs.declared.state.State.{State}
use Rattle.hippo_replay.specs.Standing.{Represents}

-- a load as one call of its keeper
abbrev pub load_as_call : {A : Type 0} → Result A LoadFault → Result (Unit {0}) KeeperFault
load_as_call (Ok value) = Ok tt
load_as_call (Err Keeper) = Err keeper_faults.Failed
load_as_call (Err (Damaged place)) = Ok tt
load_as_call (Err Memory) = Err keeper_faults.Memory

-- whether the load found out what the stored list is: the entries of a history, or damaged
abbrev pub judges : {A : Type 0} → Result A LoadFault → Bool
judges (Ok value) = true
judges (Err Keeper) = false
judges (Err (Damaged place)) = true
judges (Err Memory) = false

-- the stored list is one that may be found, its numbers rise from above 0, and exactly this list
-- survives a stop
pub record KeepsFound (finds : Survivors) (keeper : KeeperState) : Type 0 where
  pub found : finds keeper.kept
  pub order : RisesAbove 0 keeper.kept
  pub alone : (store : Store) → keeper.survives store → store ≡ keeper.kept
  pub survives_stop : ∥ keeper.survives keeper.kept ∥₁

-- a state stands for a valid history, and one step was taken for each version in it. If the store's
-- contents are known, this is the only history with the stored forms.
pub record IsLoaded (state : State) (keeper : KeeperState) (steps_before steps_after : ℕ)
    : Type 0 where
  pub history : History
  pub stands : Represents state history
  pub told : keeper.tells → map stored history ≡ keeper.kept
  pub only : keeper.tells → (other : History) → IsStoreOf meaning keeper.kept other
      → other ≡ history
  pub steps : steps_after ≡ steps_before + versions history

-- what a load from the store with this name does
pub record Loads (name : List ℕ) (result : Result State LoadFault) (before after : KeeperState)
    (steps_before steps_after : ℕ) : Type 0 where
  -- only running out of memory at the start closes the keeper, and only a keeper's fault leaves it
  -- spent
  pub call : IsAfterCall after.started (not after.started && is_out_of_memory (load_as_call result))
      (load_as_call result)
      before after
  pub started : judges result ≡ true → after.started ≡ true
  -- whatever the load answers, what a started keeper stores is what it found
  pub found : after.started ≡ true → after.tells → KeepsFound (before.finds name) after
  pub ok : IfOk result (λ state. IsLoaded state after steps_before steps_after)
  pub damaged : (place : ℕ) → result ≡ Err (Damaged place) → after.tells
      → IsDamagedAt meaning after.kept place
  pub steps : after.tells → steps_after ≤ steps_before + stored_versions after.kept
  pub opened : HasOpened name before after
