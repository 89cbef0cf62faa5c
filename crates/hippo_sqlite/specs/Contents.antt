-- What a connection holds as contracts see it, and what a keeper's calls do to it.
use Rattle.std.specs.Prelude.{◌≡◌, ◌⊎◌, ◌≤◌, ℕ, Bool, true, false, List, [], ◌∷◌, ◌++◌, codes, find, length, map, Result, OnOk, IfOk, IsTrue, ⊤}
use Rattle.std.specs.Option.{option_map_or}
use Rattle.sqlite_trees.specs.declared.store.Store as store
use Rattle.sqlite_trees.specs.Tree.{Trees}
use Rattle.sqlite_schema.specs.declared.schema.Schema.{Schema}
use Rattle.sqlite_schema.specs.Names.{same_name}
use Rattle.sqlite_catalog.specs.Listing.{IsSound}
use Rattle.sqlite.specs.Effect.{Database, IsDatabase}
use Rattle.sqlite.specs.State.{State, HasCleanDisk}
use Rattle.sqlite.specs.Held.{Held, state}
use Rattle.hippo_model.specs.declared.stored.StoredEntry.{StoredEntry}
use Rattle.hippo_keeper.specs.Answering.{has_failed, is_out_of_memory}
use Rattle.hippo_keeper.specs.Keeping.{Store, Survivors, RisesAbove}
use Rattle.hippo_keeper.specs.Selecting.{selected_entries}
use Rattle.hippo_keeper.specs.declared.faults.KeeperFault.{KeeperFault}
use Rattle.hippo_sqlite_table.specs.Tables.{HistoryRow, stored_row, entries_in, AreInOrder, history_schema, empty_schema}

-- the entries in a database: those of its table `history`, or none if it has no such table
abbrev pub entries_of : Schema → Trees → Store
entries_of schema trees =
    option_map_or (λ table. entries_in (trees table.tree))
    (find (λ table. same_name table.name (codes "history")) schema.tables) []

-- the trees are those of a database with these entries
abbrev pub IsKeptIn : Trees → Store → Type 0
IsKeptIn trees entries =
    (schema : Schema) × IsSound schema trees × (entries ≡ entries_of schema trees)

-- the database has exactly one table, that of the history; its rows have the table's types and are
-- ordered by number
pub record HasHistory (db : Database) : Type 0 where
  pub schema : db.schema ≡ history_schema
  pub rows : List HistoryRow
  pub are : db.trees 0 ≡ map stored_row rows
  pub order : AreInOrder rows

-- the database has no table, or only that of the history
abbrev pub StartsWell : Database → Type 0
StartsWell db = (db.schema ≡ empty_schema) ⊎ HasHistory db

-- the trees are those of a database with no table, or with only that of the history
abbrev pub HoldsWell : Trees → Type 0
HoldsWell trees =
    (schema : Schema) × IsSound schema trees
    × StartsWell (record { schema = schema; trees = trees })

-- between calls: no transaction is open, and what was committed has the history
pub record Rests (s : State) : Type 0 where
  pub autocommit : s.in_transaction ≡ false
  pub settled : s.now ≡ s.committed
  pub sound : IsDatabase s.committed
  pub history : HasHistory s.committed

-- a connection as contracts see it
pub record Contents : Type 1 where
  pub tells : Type 0
  pub kept : Store
  pub survives : Survivors
  pub rests : Type 0
  -- the disk has given back what was written so far, and the store is open
  pub clean : Type 0
  -- the store was opened, and had no table then, or only that of the history
  pub own : Type 0
  -- the store was opened, and is in memory
  pub in_memory : Type 0

-- the contents of a connection, from three of its states: now, after the last call that did not
-- fail, and as it was opened
abbrev pub connection_contents : {S : Type 0} → store.Ghosts S → Held S → Held S → Held S → Contents
connection_contents g now told opened = record {
  tells = HasCleanDisk (state g now) × IsTrue (state g told).is_open
      × StartsWell (state g opened).now;
  kept = entries_of (state g told).committed.schema (state g told).committed.trees;
  survives = λ entries. (trees : Trees) × (state g now).may_leave trees × IsKeptIn trees entries;
  rests = (told ≡ now) × (HasCleanDisk (state g now) → IsTrue (state g now).is_open
      → StartsWell (state g opened).now
      → Rests (state g now));
  clean = HasCleanDisk (state g now) × IsTrue (state g told).is_open;
  own = StartsWell (state g opened).now;
  in_memory = ⊥;
}

-- without a connection, nothing is stored
abbrev pub no_contents : Contents
no_contents = record {
  tells = ⊤;
  kept = [];
  survives = λ entries. entries ≡ [];
  rests = ⊤;
  clean = ⊤;
  own = ⊥;
  in_memory = ⊥;
}

-- the contents are known over a store of the keeper's own on a clean disk, and in memory
pub record MustTell (it : Contents) : Type 0 where
  pub over_disk : it.clean → it.own → it.tells
  pub over_memory : it.in_memory → it.tells

-- no store was opened
pub record IsUnopened (it : Contents) : Type 0 where
  pub tells : it.tells
  pub clean : it.clean
  pub no_own : it.own → ⊥
  pub no_memory : it.in_memory → ⊥

-- exactly the stored list survives a stop now
pub record OnlyKept (it : Contents) : Type 0 where
  pub survives_stop : it.survives it.kept
  pub alone : (entries : Store) → it.survives entries → entries ≡ it.kept

-- the same list is stored; only lists that survived a stop before may survive one now, and at least
-- one does
pub record IsSame (old new : Contents) : Type 0 where
  pub kept : new.kept ≡ old.kept
  pub stop : (entries : Store) → new.survives entries → old.survives entries
  pub some : ∥ ((entries : Store) × new.survives entries) ∥₁

-- after any call: the contents are known only if they were known before, and where they must be;
-- no disk got clean, and the store is where it was; unless the call failed, the connection is at
-- rest
pub record GoesOn {A : Type 0} (result : Result A KeeperFault) (old new : Contents) : Type 0 where
  pub told : new.tells → old.tells
  pub rests : has_failed result ≡ false → new.rests
  pub clean : new.clean → old.clean
  pub own : old.own → new.own
  pub memory : old.in_memory → new.in_memory
  pub must : MustTell new

-- an append adds one entry after those that are stored. If it fails, the entry may or may not
-- survive a stop; if it runs out of memory, it does nothing.
pub record AppendsTo {A : Type 0} (entry : StoredEntry) (result : Result A KeeperFault)
    (old new : Contents) : Type 0 where
  pub on : GoesOn result old new
  pub longer : OnOk result (new.tells → new.kept ≡ old.kept ++ entry ∷ [])
  pub only : OnOk result (new.tells → OnlyKept new)
  pub kept : has_failed result ≡ true → new.kept ≡ old.kept
  pub stop : has_failed result ≡ true → new.tells → (entries : Store) → new.survives entries
      → old.survives entries ⊎ (entries ≡ old.kept ++ entry ∷ [])
  pub some : has_failed result ≡ true → new.tells
      → ∥ ((entries : Store) × new.survives entries) ∥₁
  pub memory : is_out_of_memory result ≡ true → new.tells → IsSame old new

-- a read changes nothing that is stored
pub record LeavesContents {A : Type 0} (result : Result A KeeperFault) (old new : Contents)
    : Type 0 where
  pub on : GoesOn result old new
  pub same : new.tells → IsSame old new

-- a read answers what was asked for, and changes nothing that is stored
pub record HasRead (test : StoredEntry → Bool) (after max : ℕ) (result : Result Store KeeperFault)
    (old new : Contents) : Type 0 where
  pub few : IfOk result (λ list. length list ≤ max)
  pub order : IfOk result (RisesAbove after)
  pub looks : LeavesContents result old new
  pub told : IfOk result (λ list. new.tells → list ≡ selected_entries test after max old.kept)
