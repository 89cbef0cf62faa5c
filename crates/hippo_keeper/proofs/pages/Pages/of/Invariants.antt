-- The entries so far, and those that are left.
use Rattle.std.proofs.Common.{◌≡◌, ◌++◌, drop}
use Rattle.hippo_keeper.proofs.pages.Pages.of.Given as goal

abbrev pub invariant-loop-entry : goal.invariant-loop-entry
invariant-loop-entry l = l.pages ++ drop l.entry-index l.entries ≡ l.entries
