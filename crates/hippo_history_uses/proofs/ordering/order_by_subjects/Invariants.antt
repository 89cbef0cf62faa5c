-- The tables are as before.
use Rattle.hippo_tables.specs.Standing.{TablesAreAsBefore}
use Rattle.hippo_history_uses.proofs.ordering.order_by_subjects.Given as goal

abbrev pub invariant-loop-table : goal.invariant-loop-table
invariant-loop-table l = TablesAreAsBefore l.initial.tables l.tables
