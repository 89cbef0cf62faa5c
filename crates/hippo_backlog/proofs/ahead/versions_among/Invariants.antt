-- The number of versions so far, plus that of the remaining ones.
use Rattle.std.proofs.Common.{◌≡◌, ◌+◌, ◌≤◌, drop}
use Rattle.hippo_keeper.specs.Selecting.{stored_versions}
use Rattle.hippo_backlog.proofs.ahead.versions_among.Given as goal

abbrev pub invariant-loop-entry : goal.invariant-loop-entry
invariant-loop-entry l = record {
  counted : l.count + stored_versions (drop l.entry-index l.entries) ≡ stored_versions l.entries;
  within : l.count ≤ l.entry-index;
}
