-- What each call on a keeper does to the entries that it stores, and to the entries that survive a
-- stop.
use Rattle.std.specs.Prelude.{◌≡◌, ℕ, ◌+◌, ◌<◌, ◌≤◌, ◌⊎◌, ⊤, Bool, true, false, List, [], ◌∷◌, ◌++◌, Result, IsTrue, OnOk, is_ok}
use Rattle.hippo_io.specs.Faults.{HasRisen}
use Rattle.hippo_model.specs.declared.stored.StoredEntry.{StoredEntry}
use Rattle.hippo_keeper.specs.Answering.{has_failed, is_out_of_memory}
use Rattle.hippo_keeper.specs.declared.faults.KeeperFault.{KeeperFault}

-- stored entries, in the order in which they were stored
abbrev pub Store : Type 0
Store = List StoredEntry

-- the lists that may be found after a stop
abbrev pub Survivors : Type 1
Survivors = Store → Type 0

-- the first number is above this one, and each later number is above the one before it
abbrev pub RisesAbove : ℕ → Store → Type 0
RisesAbove number [] = ⊤
RisesAbove number (entry ∷ rest) = (number < entry.seq) × RisesAbove entry.seq rest

-- the number of the last entry, or this number if there is none
abbrev pub last_number : ℕ → Store → ℕ
last_number number [] = number
last_number number (entry ∷ rest) = last_number entry.seq rest

-- the number of the next entry
abbrev pub next_number : Store → ℕ
next_number kept = last_number 0 kept + 1

-- a keeper as contracts see it
pub record KeeperState : Type 1 where
  -- The keeper tells: the contents of its store are known to the proof, and what it keeps is
  -- exactly the list `kept`. Such a store is called transparent. A call may end this, and no call
  -- begins it. A contract promises something about the entries only while this holds.
  pub tells : Type 0
  pub kept : Store
  pub started : Bool
  -- a start ran out of memory
  pub closed : Bool
  -- a call failed
  pub spent : Bool
  -- the lists that a later start of the same store may find if a stop happens now
  pub survives : Survivors
  -- the lists that a start with this name may find
  pub finds : List ℕ → Survivors
  -- the disk has given back what was written so far, and the store is open. A call may end this,
  -- and no call begins it.
  pub clean : Type 0
  -- the store was opened, and held nothing then or what such a keeper had stored
  pub own : Type 0
  -- the store was opened, and is in memory
  pub in_memory : Type 0
  -- whatever a start with this name may find is nothing or what such a keeper had stored
  pub finds_own : List ℕ → Type 0
  -- how often a call failed; the count stops at its highest value
  pub faults : ℕ
  -- the invariant of the keeper between calls
  pub sound : Type 0

-- where a keeper has to tell: over a store of its own on a clean disk, and over a store in memory
pub record HasToTell (keeper : KeeperState) : Type 0 where
  pub over_disk : keeper.clean → keeper.own → keeper.tells
  pub over_memory : keeper.in_memory → keeper.tells

-- a call cleans no disk, and leaves the store where it is and whose it is
pub record KeepsTelling (before after : KeeperState) : Type 0 where
  pub clean : after.clean → before.clean
  pub own : before.own → after.own
  pub memory : before.in_memory → after.in_memory
  pub has_to : HasToTell after

-- a call may be made on the keeper: its invariant holds, it is neither closed nor spent, and it is
-- started or not, as given
pub record IsReady (is_started : Bool) (keeper : KeeperState) : Type 0 where
  pub is_sound : keeper.sound
  pub started_is : keeper.started ≡ is_started
  pub not_closed : keeper.closed ≡ false
  pub not_spent : keeper.spent ≡ false
  pub has_to_tell : HasToTell keeper

-- the count of faults rises if the call failed, and stays the same on any other answer
pub record CountsFaults {A : Type 0} (result : Result A KeeperFault) (before after : ℕ)
    : Type 0 where
  pub cause : has_failed result ≡ true → HasRisen before after
  pub unfailed : has_failed result ≡ false → after ≡ before
  pub rises : before ≤ after

-- what holds after a call on a keeper, whatever it answers. The keeper's invariant holds; it is
-- started and closed as given; it is spent exactly when the call failed; its contents are known
-- only if they were known before, and wherever it has to tell.
pub record IsAfterCall {A : Type 0} (is_started is_closed : Bool) (result : Result A KeeperFault)
    (before after : KeeperState) : Type 0 where
  pub is_sound : after.sound
  pub started_is : after.started ≡ is_started
  pub closed_is : after.closed ≡ is_closed
  pub spent_is : after.spent ≡ has_failed result
  pub told : after.tells → before.tells
  pub telling : KeepsTelling before after
  pub faults : CountsFaults result before.faults after.faults

-- exactly the stored list survives a stop now
pub record OnlySurvives (keeper : KeeperState) : Type 0 where
  pub survives_stop : keeper.survives keeper.kept
  pub alone : (store : Store) → keeper.survives store → store ≡ keeper.kept

-- the stored list is one that may be found, its numbers rise from above 0, and exactly this list
-- survives a stop
pub record HasFound (finds : Survivors) (keeper : KeeperState) : Type 0 where
  pub found : finds keeper.kept
  pub order : RisesAbove 0 keeper.kept
  pub stop : OnlySurvives keeper

-- one more entry is stored, and exactly the longer list survives a stop
pub record HasOneMore (entry : StoredEntry) (before after : KeeperState) : Type 0 where
  pub longer : after.kept ≡ before.kept ++ entry ∷ []
  pub stop : OnlySurvives after

-- either the old list is stored or the longer one. Only the longer list and lists that survived a
-- stop before may survive one now, and at least one list does.
pub record MayHaveOneMore (entry : StoredEntry) (before after : KeeperState) : Type 0 where
  pub either : (after.kept ≡ before.kept) ⊎ (after.kept ≡ before.kept ++ entry ∷ [])
  pub stop : (store : Store) → after.survives store → before.survives store
      ⊎ (store ≡ before.kept ++ entry ∷ [])
  pub some : ∥ ((store : Store) × after.survives store) ∥₁

-- the same list is stored; only lists that survived a stop before may survive one now, and at least
-- one list does
pub record Stays (before after : KeeperState) : Type 0 where
  pub same : after.kept ≡ before.kept
  pub stop : (store : Store) → after.survives store → before.survives store
  pub some : ∥ ((store : Store) × after.survives store) ∥₁

-- the same list is stored; only lists that survived a stop before may survive one now, and at least
-- one list does if one did before
pub record KeepsSame (before after : KeeperState) : Type 0 where
  pub same : after.kept ≡ before.kept
  pub stop : (store : Store) → after.survives store → before.survives store
  pub some : ∥ ((store : Store) × before.survives store) ∥₁
      → ∥ ((store : Store) × after.survives store) ∥₁

-- what a start with a name does
pub record Starts {A : Type 0} (name : List ℕ) (result : Result A KeeperFault)
    (before after : KeeperState) : Type 0 where
  pub call : IsAfterCall (is_ok result) (is_out_of_memory result) result before after
  pub ok : OnOk result (after.tells → HasFound (before.finds name) after)
  pub own : OnOk result (after.clean → before.finds_own name → after.own)
  pub unnamed : OnOk result (name ≡ [] → after.in_memory)

-- what an append does
pub record AppendsEntry {A : Type 0} (entry : StoredEntry) (result : Result A KeeperFault)
    (before after : KeeperState) : Type 0 where
  pub call : IsAfterCall true false result before after
  pub ok : OnOk result (after.tells → HasOneMore entry before after)
  pub failed : IsTrue (has_failed result) → after.tells → MayHaveOneMore entry before after
  pub memory : IsTrue (is_out_of_memory result) → after.tells → Stays before after
