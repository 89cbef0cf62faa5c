-- What a keeper leaves in its store, and what an opening of the store may find after a stop.
use Rattle.std.specs.Prelude.{◌≢◌, ℕ, List, [], IsTrue}
use Rattle.sqlite_disk.specs.declared.Disk as disk
use Rattle.sqlite_trees.specs.declared.store.Store as store
use Rattle.sqlite_trees.specs.Tree.{Trees}
use Rattle.sqlite_trees.specs.View.{IsClean}
use Rattle.sqlite_wal.specs.Recovery.{Image}
use Rattle.sqlite_store.specs.declared.store.FileStore.{FileStore}
use Rattle.sqlite_store.specs.FileStore.{state, view}
use Rattle.sqlite.specs.Held.{AreDatabases}
use Rattle.hippo_keeper.specs.Keeping.{Store, Survivors}
use Rattle.hippo_sqlite.specs.Contents.{IsKeptIn}
use Rattle.hippo_sqlite.specs.Openings.{IsFoundIn}
use Rattle.hippo_sqlite.specs.Standings.{finds_by}

-- a store that a keeper gave back: on a clean disk a stop leaves a database in it, and what a later
-- opening may find in it survives a stop of the keeper
pub record IsLeftBy {S : Type 0} (g : store.Ghosts S) (survives : Survivors) (it : S) : Type 0 where
  pub numbered : IsClean (g.view it) → IsTrue (g.view it).is_numbered
  pub sound : IsClean (g.view it) → AreDatabases (g.recovers it)
  pub some : IsClean (g.view it) → ∥ ((trees : Trees) × g.recovers it trees) ∥₁
  pub fewer : (trees : Trees) (entries : Store) → g.recovers it trees → IsKeptIn trees entries
      → survives entries

-- what a start with a name may find, if file and log hold this
abbrev pub files_find : Image → List ℕ → Survivors
files_find image = finds_by (λ name trees. IsFoundIn image trees)

-- a stop may leave this in the store's file and log, and the store's disk is clean
pub record MayBeLeft {D : Type 0} {g : disk.Ghosts D} (it : FileStore D g) (image : Image)
    : Type 0 where
  pub clean : IsClean (view it)
  pub may : (state it).may_leave image

-- a start with a name finds only what survives
abbrev pub FindsOnly : (List ℕ → Survivors) → Survivors → Type 0
FindsOnly finds survives =
    (name : List ℕ) (entries : Store) → name ≢ [] → finds name entries → ∥ survives entries ∥₁

-- whatever a stop may leave in the files of the store, a later start finds only what survives; and
-- on a clean disk a stop may leave something
pub record LeavesSurvivors {D : Type 0} {g : disk.Ghosts D} (survives : Survivors)
    (it : FileStore D g)
    : Type 0 where
  pub only : (image : Image) → MayBeLeft it image → FindsOnly (files_find image) survives
  pub some : IsClean (view it) → ∥ ((image : Image) × MayBeLeft it image) ∥₁
