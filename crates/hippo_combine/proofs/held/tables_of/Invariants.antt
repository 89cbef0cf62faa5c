-- The schemas and the rows so far, followed by those of the remaining tables.
use Rattle.std.proofs.Common.{◌≡◌, ◌++◌, drop, filter_map}
use Rattle.hippo_combine.specs.Held.{schema_held, rows_held}
use Rattle.hippo_combine.proofs.held.tables_of.Given as goal

abbrev pub invariant-loop-table : goal.invariant-loop-table
invariant-loop-table l = record {
  schemas : l.schemas ++ filter_map (schema_held l.tables) (drop l.table-index l.names)
      ≡ filter_map (schema_held l.tables) l.names;
  sets : l.sets ++ filter_map (rows_held l.tables) (drop l.table-index l.names)
      ≡ filter_map (rows_held l.tables) l.names;
}
