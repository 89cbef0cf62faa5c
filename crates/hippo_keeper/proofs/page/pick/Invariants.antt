-- What was picked so far, and what is left.
use Rattle.std.proofs.Common.{◌≡◌, length, drop}
use Rattle.hippo_keeper.specs.Paging.{page_entries, AreWithinPage, with_picked}
use Rattle.hippo_keeper.proofs.page.pick.Given as goal

abbrev pub invariant-loop-head : goal.invariant-loop-head
invariant-loop-head l = record {
  within : AreWithinPage (length l.tables) (length l.bodies) l.start (drop l.head-index l.heads);
  left : with_picked l.read_query l.list (page_entries l.tables l.bodies l.start (drop l.head-index l.heads)) ≡ with_picked l.read_query l.initial.list (page_entries l.tables l.bodies 0 l.heads);
}
