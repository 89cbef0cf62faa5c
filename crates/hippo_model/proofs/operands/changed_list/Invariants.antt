-- The replacements of the operands so far.
use Rattle.std.proofs.Common.{◌≡◌, take, map}
use Rattle.hippo_model.proofs.operands.changed_list.Given as goal

abbrev pub invariant-loop-operand : goal.invariant-loop-operand
invariant-loop-operand g l = l.made ≡ map (g.C.Change.to l.change) (take l.operand-index l.list)
