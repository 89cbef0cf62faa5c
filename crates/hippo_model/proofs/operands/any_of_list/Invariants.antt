use Rattle.std.proofs.Common.{◌≡◌, drop}
use Rattle.std.specs.List.{list_any}
use Rattle.hippo_model.proofs.operands.any_of_list.Given as goal

abbrev pub invariant-loop-operand : goal.invariant-loop-operand
invariant-loop-operand g l =
    list_any (g.T.OperandTest.passes l.test) l.list
    ≡ list_any (g.T.OperandTest.passes l.test) (drop l.operand-index l.list)
