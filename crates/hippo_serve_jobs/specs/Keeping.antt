-- Which history a keeper stores, and which history survives a stop.
use Rattle.std.specs.Prelude.{◌⊎◌}
use Rattle.hippo_values.specs.Texts.{Txt}
use Rattle.hippo_model.specs.Terms.{History}
use Rattle.hippo_model.specs.Stores.{IsStoreOf}
use Rattle.hippo_keeper.specs.Keeping.{Store, KeeperState}
use Rattle.hippo_typing.specs.Meanings.{meaning}

-- a keeper stores the stored forms of a valid history, and exactly these survive a stop
pub record KeepsHistory (history : History) (keeper : KeeperState) : Type 0 where
  pub kept : IsStoreOf meaning keeper.kept history
  pub alone : (store : Store) → keeper.survives store → IsStoreOf meaning store history
  pub survives_stop : ∥ keeper.survives keeper.kept ∥₁

-- a keeper stores the stored forms of one of two valid histories, and those of one of the two
-- survive a stop
pub record KeepsEither (history longer : History) (keeper : KeeperState) : Type 0 where
  pub kept : IsStoreOf meaning keeper.kept history ⊎ IsStoreOf meaning keeper.kept longer
  pub alone : (store : Store) → keeper.survives store → IsStoreOf meaning store history
      ⊎ IsStoreOf meaning store longer
  pub some : ∥ ((store : Store) × keeper.survives store) ∥₁

-- a start of the next keeper finds only what survives a stop of the last keeper
abbrev pub FindsWhatSurvives : Txt → KeeperState → KeeperState → Type 0
FindsWhatSurvives name last next =
    (store : Store) → next.finds name store → ∥ last.survives store ∥₁

-- a start finds only the stored forms of this history
abbrev pub FindsHistory : Txt → History → KeeperState → Type 0
FindsHistory name history keeper =
    (store : Store) → keeper.finds name store → ∥ IsStoreOf meaning store history ∥₁

-- a start finds only the stored forms of one of these two histories
abbrev pub FindsEither : Txt → History → History → KeeperState → Type 0
FindsEither name history longer keeper =
    (store : Store) → keeper.finds name store
    → ∥ (IsStoreOf meaning store history ⊎ IsStoreOf meaning store longer) ∥₁
