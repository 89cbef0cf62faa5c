-- The entries so far, in order, and the last of their numbers.
use Rattle.std.proofs.Common.{◌≡◌, ◌≤◌, length}
use Rattle.hippo_keeper.specs.Keeping.{RisesAbove, last_number}
use Rattle.hippo_sqlite_table.proofs.ListLemmas.{IsSoFar}
use Rattle.hippo_sqlite_table.proofs.entries.entries_of.Given as goal

abbrev pub invariant-loop-row : goal.invariant-loop-row
invariant-loop-row l = record {
  few : length l.list ≤ l.max;
  order : RisesAbove l.after l.list;
  last_is : l.last ≡ last_number l.after l.list;
  told : IsSoFar l.after l.max l.rows l.list l.last l.row-index;
}
