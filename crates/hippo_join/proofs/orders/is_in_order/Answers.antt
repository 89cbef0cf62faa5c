-- One more table is at its own place.
use Rattle.hippo_join.proofs.OrderLemmas.{in_order_more}
use Rattle.hippo_join.proofs.orders.is_in_order.Goals as goal

pub loop-place-preserved : goal.loop-place-preserved
loop-place-preserved c = in_order_more c.as_slice-tables.result.now c.loop-place.place c.loop-place-test.true c.if-tables-place.false c.loop-place.invariant
