use Rattle.std.proofs.Common.{◌≡◌, drop}
use Rattle.std.specs.List.{list_any}
use Rattle.hippo_model.specs.Conditions.{operands}
use Rattle.hippo_model.proofs.operands.+any_operand.Given as goal

abbrev pub invariant-any_of_parts-loop-part : goal.invariant-any_of_parts-loop-part
invariant-any_of_parts-loop-part g l =
    list_any (λ part. list_any (g.T.OperandTest.passes l.test) (operands part)) l.parts
    ≡ list_any (λ part. list_any (g.T.OperandTest.passes l.test) (operands part)) (drop l.part-index l.parts)
