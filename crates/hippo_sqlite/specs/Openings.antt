-- What an opening of a file and its log may find.
use Rattle.std.specs.Prelude.{◌≡◌}
use Rattle.sqlite_wal.specs.Recovery.{Image}
use Rattle.sqlite_trees.specs.Tree.{Trees}
use Rattle.sqlite.specs.Files.{HoldsDatabase, AreFoundIn}

-- the trees that the files recover to: those of the database that they hold, or empty trees if they
-- hold nothing
pub record IsFoundIn (image : Image) (trees : Trees) : Type 0 where
  pub found : AreFoundIn image trees
  pub same : (held : Trees) → HoldsDatabase image held → trees ≡ held
