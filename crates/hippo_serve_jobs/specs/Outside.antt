-- Everything outside the program, as contracts see it.
use Rattle.std.specs.Prelude.{ℕ, Option}
use Rattle.hippo_values.specs.Texts.{Txt}
use Rattle.hippo_keeper.specs.Keeping.{KeeperState}

-- the bytes that remain in the source and those written to the sink, if these are known, and the
-- number of steps so far
pub record Told : Type 0 where
  pub left : Option Txt
  pub written : Option Txt
  pub steps : ℕ

-- everything outside the program: what `Told` has, and the keeper
pub record Outside : Type 1 where
  pub told : Told
  pub keeper : KeeperState

abbrev pub telling : Option Txt → Option Txt → ℕ → Told
telling left written steps = record { left = left; written = written; steps = steps }

abbrev pub outside : Option Txt → Option Txt → KeeperState → ℕ → Outside
outside left written keeper steps = record { told = telling left written steps; keeper = keeper }
