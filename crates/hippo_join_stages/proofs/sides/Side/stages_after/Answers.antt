-- One more stage.
use Rattle.std.proofs.Common.{length-set}
use Rattle.hippo_join_stages.proofs.FindingLemmas.{stages-more}
use Rattle.hippo_join_stages.proofs.sides.Side.stages_after.Goals as goal

pub loop-table-preserved : goal.loop-table-preserved
loop-table-preserved g c = record {
  long = simp length-set c.loop-table.invariant.long;
  so_far =
      stages-more (g.C.ChoiceView.choices c.args.self.now.choices.now) c.args.self.now.query.now c.args.self.now.sets.now c.args.lists c.args.order.now c.loop-table.table-index c.loop-table.stages.items c.push.new.self.items c.in_ok-stage.stage
      c.loop-table.invariant.so_far c.in_ok-stage.ensures.walkable c.in_ok-stage.ensures.listed c.in_ok-stage.ensures.table c.loop-table-test.true c.in_ok-push.ensures.items;
}
