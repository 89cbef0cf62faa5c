-- The columns so far that are left, and those of the rest.
use Rattle.std.proofs.Common.{◌≡◌, ◌++◌, not, filter, drop}
use Rattle.hippo_history_carry.specs.Decisions.{is_ruled_in}
use Rattle.hippo_history_carry.proofs.decided.Decided.columns_left.Given as goal

abbrev pub invariant-loop-column : goal.invariant-loop-column
invariant-loop-column l =
    l.left ++ filter (λ column. not (is_ruled_in l.self l.ruled.purpose.now l.ruled.recipient.now l.ruled.table.now column)) (drop l.column-index l.columns)
    ≡ filter (λ column. not (is_ruled_in l.self l.ruled.purpose.now l.ruled.recipient.now l.ruled.table.now column)) l.columns
