-- The tables' contents stay the same.
use Rattle.hippo_tables.specs.Standing.{TablesAreAsBefore}
use Rattle.hippo_tables.proofs.tables.Tables.order_for.Given as goal

abbrev pub invariant-loop-part : goal.invariant-loop-part
invariant-loop-part l = TablesAreAsBefore l.initial.self l.self
