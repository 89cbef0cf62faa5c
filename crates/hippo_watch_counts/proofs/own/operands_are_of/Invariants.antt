-- Whether the remaining operands are of the table.
use Rattle.std.proofs.Common.{◌≡◌, drop}
use Rattle.std.specs.List.{list_all}
use Rattle.hippo_model.specs.Columns.{columns_in}
use Rattle.hippo_watch_counts.specs.Rows.{are_of}
use Rattle.hippo_watch_counts.proofs.own.operands_are_of.Given as goal

abbrev pub invariant-loop-operand : goal.invariant-loop-operand
invariant-loop-operand l =
    list_all (λ operand. are_of l.table (columns_in operand)) l.operands ≡ list_all (λ operand. are_of l.table (columns_in operand)) (drop l.operand-index l.operands)
