-- One of the remaining tables comes next.
use Rattle.std.proofs.Common.{◌≡◌, ℕ, ◌<◌, ◌++◌, List, length, ap, subst, arith}
use Rattle.hippo_join.proofs.OrderLemmas.{ordered-more, long-more, front-more, front-first, same-first}
use Rattle.hippo_join.proofs.orders.order_after.Goals as goal

pub loop-alloc-init : goal.loop-alloc-init
loop-alloc-init g c =
    let same : length c.in_ok-order.order.items ≡ length c.args.first.now = ap length c.in_ok-order.ensures.items in
    record {
      same = same-first c.args.first.now c.args.others.now c.in_ok-order.order.items c.in_ok-left.left.items c.in_ok-order.ensures.items c.in_ok-left.ensures.items;
      long = omega (arith, same);
      front = front-first c.args.first.now c.in_ok-order.order.items c.in_ok-order.ensures.items;
    }

pub loop-alloc-preserved : goal.loop-alloc-preserved
loop-alloc-preserved g c = record {
  same =
      ordered-more (c.args.first.now ++ c.args.others.now) c.loop-alloc.order.items c.loop-alloc.left.items c.push.new.self.items c.remove-table.new.self.items c.in_ok-place.place c.remove-table.result
      (subst (λ (left : List ℕ). c.in_ok-place.place < length left) c.deref.ensures.value c.in_ok-place.ensures) c.remove-table.ensures.value c.loop-alloc.invariant.same c.in_ok-push.ensures.items c.remove-table.ensures.items;
  long = long-more (length c.args.first.now) c.loop-alloc.order.items c.push.new.self.items c.remove-table.result c.in_ok-push.ensures.items c.loop-alloc.invariant.long;
  front = front-more c.args.first.now c.loop-alloc.order.items c.push.new.self.items c.remove-table.result c.in_ok-push.ensures.items c.loop-alloc.invariant.long c.loop-alloc.invariant.front;
}
