-- The rest rises from above the last number only if the whole list rises.
use Rattle.std.proofs.Common.{drop}
use Rattle.hippo_keeper.specs.Keeping.{RisesAbove}
use Rattle.hippo_try_runs.proofs.store.is_rising.Given as goal

abbrev pub invariant-loop-entry : goal.invariant-loop-entry
invariant-loop-entry l = RisesAbove l.last (drop l.entry-index l.entries) → RisesAbove 0 l.entries
