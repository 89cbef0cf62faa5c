-- The counts so far.
use Rattle.std.proofs.Common.{◌≡◌, length}
use Rattle.hippo_watch_counts.proofs.Counting.{SoFar}
use Rattle.hippo_watch_counts.proofs.counts.counts_of.Given as goal

abbrev pub invariant-loop-name : goal.invariant-loop-name
invariant-loop-name l = record {
  as_many : length l.counts.items ≡ l.name-index;
  so_far : SoFar l.tables l.audit l.counts.items;
}
