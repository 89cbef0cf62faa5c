-- What a start finds, and a keeper as contracts see it.
use Rattle.std.specs.Prelude.{◌≡◌, ℕ, Bool, false, List, [], ◌∷◌, ⊤}
use Rattle.sqlite_trees.specs.Tree.{Trees}
use Rattle.sqlite.specs.declared.error.Error.{Error}
use Rattle.sqlite.specs.declared.error.Error.TheVariants.{SqliteFailure}
use Rattle.sqlite.specs.declared.error.ErrorCode.TheVariants as code
use Rattle.hippo_keeper.specs.Keeping.{Survivors, KeeperState, RisesAbove}
use Rattle.hippo_keeper.specs.declared.faults.KeeperFault.{KeeperFault}
use Rattle.hippo_keeper.specs.declared.faults.KeeperFault.TheVariants.{Failed, Memory}
use Rattle.hippo_keeper.specs.declared.standing.Standing.{Standing}
use Rattle.hippo_sqlite.specs.Contents.{Contents, IsKeptIn, HoldsWell, OnlyKept, MustTell, IsUnopened}

-- out of memory is `Memory`, and every other error of `sqlite` is `Failed`
abbrev pub fault_named : Error → KeeperFault
fault_named (SqliteFailure code.OutOfMemory) = Memory
fault_named _ = Failed

-- what a start with this name may find: an empty store for the empty name, otherwise what an opener
-- finds
abbrev pub finds_by : (List ℕ → Trees → Type 0) → List ℕ → Survivors
finds_by Finds [] entries = entries ≡ []
finds_by Finds (byte ∷ name) entries =
    (trees : Trees) × Finds (byte ∷ name) trees × IsKeptIn trees entries

-- whatever a start with this name may find has no table, or only that of the history
abbrev pub finds_own_by : (List ℕ → Trees → Type 0) → List ℕ → Type 0
finds_own_by Finds [] = ⊤
finds_own_by Finds (byte ∷ name) = (trees : Trees) → Finds (byte ∷ name) trees → HoldsWell trees

-- a keeper as contracts see it, whose opener was used or not, and may find these trees
abbrev pub sqlite_keeper_state : Standing → Bool → (List ℕ → Trees → Type 0) → Contents
    → KeeperState
sqlite_keeper_state standing used Finds contents = record {
  tells = contents.tells;
  kept = contents.kept;
  started = standing.started;
  closed = standing.closed;
  spent = standing.spent;
  survives = contents.survives;
  finds = finds_by Finds;
  clean = contents.clean;
  own = contents.own;
  in_memory = contents.in_memory;
  finds_own = finds_own_by Finds;
  faults = standing.faults;
  sound = (standing.started ≡ false → standing.closed ≡ false → standing.spent ≡ false
      → (used ≡ false) × IsUnopened contents)
      × (standing.spent ≡ false → contents.rests);
}

-- the contents after a start that may find these lists: if they are known, the stored list is one
-- of these, and only that list survives a stop. `Own` says that what is found is well, and `Unnamed`
-- that the store has no name.
pub record IsStarted (Found : Survivors) (Own Unnamed : Type 0) (it : Contents) : Type 0 where
  pub rests : it.rests
  pub found : it.tells → Found it.kept
  pub order : it.tells → RisesAbove 0 it.kept
  pub only : it.tells → OnlyKept it
  pub own : it.clean → Own → it.own
  pub unnamed : Unnamed → it.in_memory
  pub must : MustTell it
