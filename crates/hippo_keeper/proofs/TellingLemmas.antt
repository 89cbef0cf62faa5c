-- A keeper tells after its start, and after the calls that follow.
use Rattle.std.proofs.Common.{◌≡◌, ℕ, List, true, false, sym, ◌∙◌}
use Rattle.std.proofs.lemmas.Bool.{false≢true}
use Rattle.hippo_keeper.specs.declared.faults.KeeperFault.{KeeperFault}
use Rattle.hippo_keeper.specs.Keeping.{KeeperState, HasToTell, KeepsTelling, IsReady, Starts}
use Rattle.hippo_keeper.specs.Telling.{HasOpened, TellsOnceStarted}
use Rattle.hippo_keeper.proofs.Results.{well}

-- a keeper that is not started has opened nothing
pub HasOpened-none : (name : List ℕ) (before after : KeeperState) → after.started ≡ false → HasOpened name before after
HasOpened-none name before after none = record {
  own = λ started. absurd (false≢true (sym none ∙ started));
  unnamed = λ started. absurd (false≢true (sym none ∙ started));
}

-- a start that was Ok, and the calls after it
pub HasOpened-started : (name : List ℕ) (before mid after : KeeperState) → Starts name (well KeeperFault) before mid → KeepsTelling mid after → HasOpened name before after
HasOpened-started name before mid after starts keeps = record {
  own = λ started clean well. keeps.own (starts.own (keeps.clean clean) well);
  unnamed = λ started none. keeps.memory (starts.unnamed none);
}

pub HasOpened-then : (name : List ℕ) (before mid after : KeeperState) → mid.started ≡ true → HasOpened name before mid → KeepsTelling mid after → HasOpened name before after
HasOpened-then name before mid after started opened keeps = record {
  own = λ still clean well. keeps.own (opened.own started (keeps.clean clean) well);
  unnamed = λ still none. keeps.memory (opened.unnamed started none);
}

-- what was opened is told
pub TellsOnceStarted-opened : (name : List ℕ) (before after : KeeperState) → HasOpened name before after → HasToTell after → TellsOnceStarted name before after
TellsOnceStarted-opened name before after opened has_to = record {
  over_disk = λ started clean well. has_to.over_disk clean (opened.own started clean well);
  over_memory = λ started none. has_to.over_memory (opened.unnamed started none);
}

pub TellsOnceStarted-then : (name : List ℕ) (before mid after : KeeperState) → mid.started ≡ true → HasOpened name before mid → KeepsTelling mid after → TellsOnceStarted name before after
TellsOnceStarted-then name before mid after started opened keeps = TellsOnceStarted-opened name before after (HasOpened-then name before mid after started opened keeps) keeps.has_to

-- a keeper that was not called is not started
pub TellsOnceStarted-same : (name : List ℕ) (keeper : KeeperState) → IsReady false keeper → TellsOnceStarted name keeper keeper
TellsOnceStarted-same name keeper ready = record {
  over_disk = λ started. absurd (false≢true (sym ready.started_is ∙ started));
  over_memory = λ started. absurd (false≢true (sym ready.started_is ∙ started));
}
