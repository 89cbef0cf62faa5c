-- The tables ordered so far, followed by the remaining ones, are all; the first ones come first.
use Rattle.std.proofs.Common.{◌≡◌, ◌≤◌, ◌++◌, length, take, vec_len}
use Rattle.std.specs.List.Sorted.{IsPermutation}
use Rattle.hippo_join.proofs.orders.order_after.Given as goal

abbrev pub invariant-loop-alloc : goal.invariant-loop-alloc
invariant-loop-alloc g l = record {
  same : IsPermutation (l.first ++ l.others) (l.order.items ++ l.left.items);
  long : length l.first ≤ length l.order.items;
  front : take (length l.first) l.order.items ≡ l.first;
}

abbrev pub decreases-loop-alloc : goal.decreases-loop-alloc
decreases-loop-alloc g l = vec_len l.left
