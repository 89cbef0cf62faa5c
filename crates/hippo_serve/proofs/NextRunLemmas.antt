-- What the next run finds, from what survives a stop of this one.
use Rattle.std.proofs.Common.{◌≡◌, ◌≢◌, ◌↔◌, ℕ, List, [], ◌∷◌, Option, Some, None, IfSome, refl}
use mathlib.Core.Logic.{∥∥₁_map}
use Rattle.sqlite_disk.specs.declared.Disk.{Ghosts}
use Rattle.sqlite_wal.specs.Recovery.{Image}
use Rattle.sqlite_store.specs.declared.store.FileStore.{FileStore}
use Rattle.sqlite_store.specs.FileStore.{view}
use Rattle.sqlite_trees.specs.View.{IsClean}
use Rattle.hippo_model.specs.Terms.{History}
use Rattle.hippo_values.specs.Texts.{Txt}
use Rattle.hippo_keeper.specs.declared.faults.KeeperFault.{KeeperFault}
use Rattle.hippo_keeper.specs.Keeping.{Store, KeeperState, Survivors, Starts}
use Rattle.hippo_keeper.proofs.Results.{well}
use Rattle.hippo_sqlite.specs.Openings.{IsFoundIn}
use Rattle.hippo_sqlite.specs.Standings.{finds_own_by}
use Rattle.hippo_serve_jobs.specs.Keeping.{KeepsHistory, KeepsEither}
use Rattle.hippo_sqlite.specs.Leaving.{MayBeLeft, LeavesSurvivors, files_find}
use Rattle.hippo_serve.specs.NextRun.{FilesHold, FilesHoldEither, FilesHoldWell, HasStartedOver}

module _ {D : Type 0} {g : Ghosts D} (keeper : KeeperState) where
  pub holds_history : (given : Option (FileStore D g)) → IfSome given (LeavesSurvivors keeper.survives)
      → IfSome given (λ it. (image : Image) → MayBeLeft it image → (history : History) → KeepsHistory history keeper → FilesHold history image)
  holds_history None leaves = tt
  holds_history (Some it) leaves = λ image may history keeps name store some found. ∥∥₁_map (leaves.only image may name store some found) (keeps.alone store)

  pub holds_either : (given : Option (FileStore D g)) → IfSome given (LeavesSurvivors keeper.survives)
      → IfSome given (λ it. (image : Image) → MayBeLeft it image → (history longer : History) → KeepsEither history longer keeper → FilesHoldEither history longer image)
  holds_either None leaves = tt
  holds_either (Some it) leaves = λ image may history longer keeps name store some found. ∥∥₁_map (leaves.only image may name store some found) (keeps.alone store)

module _ {D : Type 0} {g : Ghosts D} (survives : Survivors) where
  pub holds_some : (given : Option (FileStore D g)) → IfSome given (LeavesSurvivors survives)
      → IfSome given (λ it. IsClean (view it) → ∥ ((image : Image) × MayBeLeft it image) ∥₁)
  holds_some None leaves = tt
  holds_some (Some it) leaves = leaves.some

-- whatever files that hold well recover to is well, for any name
own_of : (image : Image) (name : Txt) → FilesHoldWell image → finds_own_by (λ file trees. IsFoundIn image trees) name
own_of image [] well = tt
own_of image (byte ∷ name) well = λ trees found. well trees found

-- what a start over these files stores was found in them
pub started_over : (image : Image) (name : Txt) (fresh keeper : KeeperState)
    → ((entries : Store) → fresh.finds name entries ↔ files_find image name entries) → (finds_own_by (λ file trees. IsFoundIn image trees) name → fresh.finds_own name)
    → Starts name (well KeeperFault) fresh keeper → HasStartedOver image name keeper
started_over image name fresh keeper finds own starts = record {
  goes_on = λ some tells history holds. holds name keeper.kept some ((finds keeper.kept).0 (starts.ok tells).found);
  either = λ some tells history longer holds. holds name keeper.kept some ((finds keeper.kept).0 (starts.ok tells).found);
  alone = λ tells. (starts.ok tells).stop;
  tells = λ some clean holds. starts.call.telling.has_to.over_disk clean (starts.own clean (own (own_of image name holds)));
}
