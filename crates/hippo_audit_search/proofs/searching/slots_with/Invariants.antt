-- With the rows of the remaining tables, the slots are those with all rows chosen.
use Rattle.std.proofs.Common.{◌≡◌, length, drop, replicate, None}
use Rattle.hippo_audit_search.specs.FirstPlaces.{with_rows}
use Rattle.hippo_audit_search.proofs.searching.slots_with.Given as goal

abbrev pub invariant-loop-index : goal.invariant-loop-index
invariant-loop-index l = record {
  long : length l.slots.items ≡ l.count;
  so_far : with_rows (drop l.index l.tables) (drop l.index l.places) l.slots.items ≡ with_rows l.tables l.places (replicate l.count None);
}
