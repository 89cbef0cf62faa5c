use Rattle.hippo_model.specs.Conditions.{changed_operands}
use Rattle.hippo_model.proofs.ChangeLoops.{one_more}
use Rattle.hippo_model.proofs.operands.+changed_condition.Goals as goal

pub changed_condition-returns-in-Compare : goal.changed_condition-returns-in-Compare
changed_condition-returns-in-Compare g t c = rw c.in-Compare.is c.changed_comparison.ensures

pub changed_condition-returns-in-Between : goal.changed_condition-returns-in-Between
changed_condition-returns-in-Between g t c = rw c.in-Between.is c.changed_between.ensures

pub changed_parts-loop-part-preserved : goal.changed_parts-loop-part-preserved
changed_parts-loop-part-preserved g t c =
    one_more (changed_operands (g.C.Change.to c.args.change.now)) c.as_slice-part-items.result.now c.loop-part.part-index c.part-item.result c.loop-part.made c.push.new.self c.in_ok-changed_condition.field-0 c.loop-part-test.true c.part-item.is c.loop-part.invariant c.in_ok-push.ensures.ok c.in_ok-changed_condition.ensures
