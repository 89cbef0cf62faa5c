-- When a keeper tells what it stores, once it is started.
use Rattle.std.specs.Prelude.{◌≡◌, ℕ, true, List, []}
use Rattle.hippo_keeper.specs.Keeping.{KeeperState}

-- a keeper that is started has opened the store with this name: on a clean disk the store is its
-- own, if all that could be found is; and without a name it is in memory
pub record HasOpened (name : List ℕ) (before after : KeeperState) : Type 0 where
  pub own : after.started ≡ true → after.clean → before.finds_own name → after.own
  pub unnamed : after.started ≡ true → name ≡ [] → after.in_memory

-- a keeper that is started with this name tells: on a clean disk, if all that could be found is its
-- own; and without a name
pub record TellsOnceStarted (name : List ℕ) (before after : KeeperState) : Type 0 where
  pub over_disk : after.started ≡ true → after.clean → before.finds_own name → after.tells
  pub over_memory : after.started ≡ true → name ≡ [] → after.tells
