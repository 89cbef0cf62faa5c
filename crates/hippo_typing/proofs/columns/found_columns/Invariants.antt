use Rattle.std.proofs.Common.{◌≡◌, ◌++◌, map, drop}
use Rattle.std.specs.List.{flat_map}
use Rattle.hippo_typing_catalog.specs.WrittenColumns.{column_refused}
use Rattle.hippo_typing.specs.Found.{with_column}
use Rattle.hippo_typing.proofs.columns.found_columns.Given as goal

abbrev pub invariant-loop-written : goal.invariant-loop-written
invariant-loop-written l = record {
  left : flat_map (column_refused l.tables) l.fn.written ≡ flat_map (column_refused l.tables) (drop l.written-index l.fn.written);
  made : l.found ++ map (with_column l.tables) (drop l.written-index l.fn.written) ≡ map (with_column l.tables) l.fn.written;
}
