-- What the next run over the same files finds.
use Rattle.std.specs.Prelude.{◌≢◌, ◌⊎◌, []}
use Rattle.hippo_values.specs.Texts.{Txt}
use Rattle.hippo_model.specs.Terms.{History}
use Rattle.hippo_model.specs.Stores.{IsStoreOf}
use Rattle.hippo_typing.specs.Meanings.{meaning}
use Rattle.hippo_keeper.specs.Keeping.{Store, KeeperState, OnlySurvives}
use Rattle.sqlite_wal.specs.Recovery.{Image}
use Rattle.sqlite_trees.specs.Tree.{Trees}
use Rattle.hippo_sqlite.specs.Contents.{HoldsWell}
use Rattle.hippo_sqlite.specs.Leaving.{files_find}
use Rattle.hippo_sqlite.specs.Openings.{IsFoundIn}

-- over files that hold this, a start with any name finds only the stored forms of this history
abbrev pub FilesHold : History → Image → Type 0
FilesHold history image =
    (name : Txt) (store : Store) → name ≢ [] → files_find image name store
    → ∥ IsStoreOf meaning store history ∥₁

-- over files that hold this, a start with any name finds only the stored forms of one of these
abbrev pub FilesHoldEither : History → History → Image → Type 0
FilesHoldEither history longer image =
    (name : Txt) (store : Store) → name ≢ [] → files_find image name store
    → ∥ (IsStoreOf meaning store history ⊎ IsStoreOf meaning store longer) ∥₁

-- what the files recover to has no table, or only that of the history
abbrev pub FilesHoldWell : Image → Type 0
FilesHoldWell image = (trees : Trees) → IsFoundIn image trees → HoldsWell trees

-- a keeper was started with a name over files that held this. If its contents are known, it stores
-- the history that the files held, or one of two if they held one of two; and only what it stores
-- survives a stop. They are known on a clean disk if the files held hippo's table or none.
pub record HasStartedOver (image : Image) (name : Txt) (keeper : KeeperState) : Type 0 where
  pub goes_on : name ≢ [] → keeper.tells → (history : History) → FilesHold history image
      → ∥ IsStoreOf meaning keeper.kept history ∥₁
  pub either : name ≢ [] → keeper.tells → (history longer : History)
      → FilesHoldEither history longer image
      → ∥ (IsStoreOf meaning keeper.kept history ⊎ IsStoreOf meaning keeper.kept longer) ∥₁
  pub alone : keeper.tells → OnlySurvives keeper
  pub tells : name ≢ [] → keeper.clean → FilesHoldWell image → keeper.tells
