-- What storing an entry does to a keeper, and what recording it does to a keeper and a state.
use Rattle.std.specs.Prelude.{◌≡◌, ◌<◌, ◌^◌, true, false, [], ◌∷◌, ◌++◌, map, Result, OnOk}
use Rattle.hippo_model.specs.declared.entry.Entry.{Entry}
use Rattle.hippo_model.specs.Terms.{History}
use Rattle.hippo_model.specs.Keepable.{is_keepable}
use Rattle.hippo_model.specs.StoredForms.{stored}
use Rattle.hippo_model.specs.Validity.{may_follow}
use Rattle.hippo_keeper.specs.declared.faults.KeeperFault.{KeeperFault}
use Rattle.hippo_keeper.specs.Answering.{has_failed, is_out_of_memory}
use Rattle.hippo_keeper.specs.Keeping.{KeeperState, IsReady, next_number, IsAfterCall, OnlySurvives, MayHaveOneMore, KeepsSame}
use Rattle.hippo_typing.specs.Meanings.{meaning}
use Rattle.hippo_replay.specs.declared.state.State.{State}
use Rattle.hippo_replay.specs.Standing.{Represents, IsSound, MayFollow}
use Rattle.hippo_replay.specs.TakingIn.{HasLoaded}

-- the state stands for some history; its keeper is started and neither spent nor closed; and if the
-- store's contents are known, the state has loaded them
pub record IsBacked (state : State) (keeper : KeeperState) : Type 0 where
  pub sound : IsSound state
  pub ready : IsReady true keeper
  pub told : keeper.tells → HasLoaded state keeper.kept

-- an entry may follow the history that the state stands for, so it may be stored
pub record MayKeep (entry : Entry) (state : State) (keeper : KeeperState) : Type 0 where
  pub backed : IsBacked state keeper
  pub follows : MayFollow state entry
  pub number : entry.seq < 2 ^ 63

-- a keeper may append an entry: the entry has a stored form, and its number is the next one
pub record MayAppend (entry : Entry) (keeper : KeeperState) : Type 0 where
  pub keepable : is_keepable entry ≡ true
  pub ready : IsReady true keeper
  pub number : entry.seq < 2 ^ 63
  pub next : keeper.tells → entry.seq ≡ next_number keeper.kept

-- these entries are stored after the earlier ones, and exactly that list survives a stop; without
-- entries, the same is stored
abbrev pub HasKept : History → KeeperState → KeeperState → Type 0
HasKept [] before after = KeepsSame before after
HasKept (entry ∷ entries) before after =
    (after.kept ≡ before.kept ++ map stored (entry ∷ entries)) × OnlySurvives after

-- the entry is stored after the others; or it is not, because memory ran out; or the keeper failed;
-- the keeper is given the entry only if it may follow
pub record KeepsEntry {A : Type 0} (entry : Entry) (result : Result A KeeperFault) (state : State)
    (before after : KeeperState) : Type 0 where
  pub call : IsAfterCall true false result before after
  pub follows : is_out_of_memory result ≡ false → (history : History) → Represents state history
      → may_follow meaning history entry ≡ true
  pub kept : OnOk result (after.tells → HasKept (entry ∷ []) before after)
  pub failed : has_failed result ≡ true → after.tells → MayHaveOneMore (stored entry) before after
  pub same : is_out_of_memory result ≡ true → after.tells → KeepsSame before after

-- the entry is stored, and the state stands for the history with this entry at its end; when out of
-- memory, the state stands for what it stood for before
pub record Records {A : Type 0} (entry : Entry) (result : Result A KeeperFault) (old new : State)
    (before after : KeeperState) : Type 0 where
  pub keeps : KeepsEntry entry result old before after
  pub ok : OnOk result ((history : History) → Represents old history
      → Represents new (history ++ entry ∷ []))
  pub memory : is_out_of_memory result ≡ true → (history : History) → Represents old history
      → Represents new history
