-- One more moment.
use Rattle.std.specs.Prelude.{int_le}
use Rattle.hippo_history_top.proofs.MomentLemmas.{within_more, one_more_counted}
use Rattle.hippo_history_top.proofs.moments.count_at.Goals as goal

pub loop-set-preserved : goal.loop-set-preserved
loop-set-preserved c = record {
  sum = one_more_counted c.args.moment c.args.moments.now c.loop-set.set-index c.loop-set.count c.one_by-count.result c.set-item.result c.loop-set-test.true c.set-item.is c.one_by-count.ensures c.loop-set.invariant.sum;
  within = within_more c.loop-set.count c.loop-set.set-index c.one_by-count.result (int_le c.set-item.result c.args.moment) c.one_by-count.ensures c.loop-set.invariant.within;
}
