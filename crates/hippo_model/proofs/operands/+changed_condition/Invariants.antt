-- The parts so far, with their operands changed.
use Rattle.std.proofs.Common.{◌≡◌, take, map}
use Rattle.hippo_model.specs.Conditions.{changed_operands}
use Rattle.hippo_model.proofs.operands.+changed_condition.Given as goal

abbrev pub invariant-changed_parts-loop-part : goal.invariant-changed_parts-loop-part
invariant-changed_parts-loop-part g l = l.made ≡ map (changed_operands (g.C.Change.to l.change)) (take l.part-index l.part-items)
