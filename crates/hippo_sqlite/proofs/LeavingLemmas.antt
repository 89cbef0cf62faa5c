-- A later start finds in the files only what survives a stop of the keeper that left them.
use Rattle.std.proofs.Common.{◌≢◌, ℕ, List, [], ◌∷◌, Option, Some, None, IfSome, refl, sym, subst}
use mathlib.Core.Logic.{∥∥₁_map}
use Rattle.sqlite_disk.specs.declared.Disk.{Ghosts}
use Rattle.sqlite_trees.specs.Tree.{Trees}
use Rattle.sqlite_trees.specs.View.{IsClean}
use Rattle.sqlite_wal.specs.Recovery.{Image}
use Rattle.sqlite_store.specs.declared.store.FileStore.{FileStore}
use Rattle.sqlite_store.specs.FileStore.{state, view, recovers}
use Rattle.sqlite.specs.Files.{HoldsDatabase, over_files}
use Rattle.sqlite.proofs.Theorems.{opens_again}
use Rattle.hippo_keeper.specs.Keeping.{Store, Survivors}
use Rattle.hippo_sqlite.specs.Leaving.{IsLeftBy, files_find, MayBeLeft, FindsOnly, LeavesSurvivors}

module _ {D : Type 0} {g : Ghosts D} (survives : Survivors) (it : FileStore D g) (left : IsLeftBy over_files survives it) where
  finds_only : (image : Image) → MayBeLeft it image → FindsOnly (files_find image) survives
  finds_only image may [] entries some found = absurd (some refl)
  finds_only image may (byte ∷ name) entries some (trees, found, kept) =
      ∥∥₁_map (opens_again it (left.numbered may.clean) (left.sound may.clean) image may.may)
      (λ (db : (x : Trees) × recovers it x × HoldsDatabase image x). left.fewer trees entries (subst (recovers it) (sym (found.same db.0 db.2)) db.1) kept)

  pub leaves_survivors : LeavesSurvivors survives it
  leaves_survivors = record {
    only = finds_only;
    some = λ clean. ∥∥₁_map (left.some clean) (λ (found : (x : Trees) × recovers it x). let r : (image : Image) × MayBeLeft it image = (found.1.0, record { clean = clean; may = found.1.2 }) in r);
  }

-- the same of the files that a keeper gave back, if it gave any
pub left_survivors : {D : Type 0} {g : Ghosts D} (survives : Survivors) (given : Option (FileStore D g)) → IfSome given (IsLeftBy over_files survives) → IfSome given (LeavesSurvivors survives)
left_survivors survives None left = tt
left_survivors survives (Some it) left = leaves_survivors survives it left
