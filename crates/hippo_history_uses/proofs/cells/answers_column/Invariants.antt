-- Whether one of the remaining items is the column.
use Rattle.std.proofs.Common.{◌≡◌, drop}
use Rattle.hippo_audit_job.specs.Naming.{is_named}
use Rattle.hippo_history_uses.proofs.cells.answers_column.Given as goal

abbrev pub invariant-loop-item : goal.invariant-loop-item
invariant-loop-item l =
    is_named (l.table, l.place) l.query.tables l.query.items
    ≡ is_named (l.table, l.place) l.query.tables (drop l.item-index l.query.items)
