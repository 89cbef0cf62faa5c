-- The rule is taken in on the columns so far.
use Rattle.std.proofs.Common.{take}
use Rattle.hippo_history_carry.specs.Decisions.{AddsCells}
use Rattle.hippo_history_carry.proofs.decided.Decided.add_rule.Given as goal

abbrev pub invariant-loop-column : goal.invariant-loop-column
invariant-loop-column l = AddsCells l.initial.self l.self l.ruled.purpose.now l.ruled.recipient.now l.ruled.table.now (take l.column-index l.columns)
