-- The members split off and the remaining ones make up the whole lists.
use Rattle.std.proofs.Common.{◌≡◌, ◌++◌}
use Rattle.std.specs.Vec.Iter.{into_iter_items}
use Rattle.hippo_stmt_reader.specs.StatementGrammar.{assigned_columns, assigned_values}
use Rattle.hippo_stmt_reader.proofs.changes.columns_and_values.Given as goal

abbrev pub invariant-loop-column : goal.invariant-loop-column
invariant-loop-column l = record {
  columns : l.columns ++ assigned_columns (into_iter_items l.column-iterator) ≡ assigned_columns l.fn.assignments;
  values : l.values ++ assigned_values (into_iter_items l.column-iterator) ≡ assigned_values l.fn.assignments;
}
