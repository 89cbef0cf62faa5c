-- The parts of an All, and of an Any.
use Rattle.hippo_model.proofs.NamedColumns.{any_operand-All, any_operand-Any}
use Rattle.hippo_model.proofs.operands.+any_operand.Goals as goal

pub any_operand-returns-in-All : goal.any_operand-returns-in-All
any_operand-returns-in-All g t c = rw (c.in-All.is, any_operand-All (g.T.OperandTest.passes c.args.test.now)) c.any_of_parts.ensures

pub any_operand-returns-in-Any : goal.any_operand-returns-in-Any
any_operand-returns-in-Any g t c = rw (c.in-Any.is, any_operand-Any (g.T.OperandTest.passes c.args.test.now)) c.any_of_parts-in-Any.ensures
