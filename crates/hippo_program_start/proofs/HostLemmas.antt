-- A keeper with which nothing was done.
use Rattle.std.proofs.Common.{◌≡◌, refl, sym, subst}
use Rattle.hippo_keeper.specs.Keeping.{KeeperState}
use Rattle.hippo_program_start.specs.Hosts.{IsSameKeeper}

pub IsSameKeeper-itself : (keeper : KeeperState) → IsSameKeeper keeper keeper
IsSameKeeper-itself keeper = record {
  tells_still = (λ t. t, λ t. t);
  kept_is = refl;
  started_is = refl;
  closed_is = refl;
  spent_is = refl;
  survives_same = λ store. (λ s. s, λ s. s);
  faults_are = refl;
}

-- the same object has the same state
pub IsSameKeeper-same : {P : Type 0} → (state : P → KeeperState) (before after : P) → after ≡ before → IsSameKeeper (state before) (state after)
IsSameKeeper-same state before after same =
    subst (λ keeper. IsSameKeeper (state before) (state keeper)) (sym same) (IsSameKeeper-itself (state before))
