-- A row as it was before an update.
use Rattle.std.specs.Prelude.{ℕ, Option, option_map, option_and_then, slice_get, slice_index_or}
use Rattle.std.specs.Option.{option_map_or}
use Rattle.hippo_model.specs.declared.born_row.BornRow.{BornRow}
use Rattle.hippo_model.specs.Terms.{Key, Row}
use Rattle.hippo_model.specs.Rows.{key_of}
use Rattle.hippo_tables_keyed.specs.RowSets.{find_row}
use Rattle.hippo_tables.specs.declared.table.Before.{Before}
use Rattle.hippo_tables.specs.KeptTables.{KeptTable, after_update}

abbrev pub before_with : ℕ → BornRow → Before
before_with number kept = record { row = kept.row; born = kept.born; number = number }

-- the row with a key, and the number of the last entry that named it
abbrev pub before_of : Key → KeptTable → Option Before
before_of key table =
    option_and_then
    (λ place. option_map (before_with (slice_index_or table.numbers place 0))
    (slice_get table.rows.rows place))
    (find_row table.rows.key key table.rows.rows)

-- a table in which a row replaces the one with its key, and keeps its birth
abbrev pub renewed_table : Row → ℕ → KeptTable → KeptTable
renewed_table row number table =
    option_map_or (λ (before : Before). after_update (record { row = row; born = before.born })
    number table)
    (before_of (key_of table.rows.key row) table) table

-- a table with the former row restored
abbrev pub restored_table : Before → KeptTable → KeptTable
restored_table before table =
    after_update (record { row = before.row; born = before.born }) before.number table
