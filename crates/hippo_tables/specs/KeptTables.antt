-- A table as it is kept, and the effect of one change on it.
use Rattle.std.specs.Prelude.{ℕ, List, [], map, unwrap_or, slice_set}
use Rattle.std.specs.List.{insert, remove}
use Rattle.std.specs.Option.{option_map_or}
use Rattle.hippo_model.specs.declared.born_row.BornRow.{BornRow}
use Rattle.hippo_model.specs.declared.schema.Schema.{Schema}
use Rattle.hippo_model.specs.Terms.{History, Key, Place}
use Rattle.hippo_model.specs.Rows.{last_at, table_rows}
use Rattle.hippo_tables_keyed.specs.RowSets.{KeyedRows, kept_at, key_in, with_row, without_row, find_row}

-- the rows, and for each row the number of the last entry that names its key
pub record KeptTable : Type 0 where
  pub schema : Schema
  pub rows : KeyedRows
  pub numbers : List ℕ

abbrev pub change_number : Schema → History → BornRow → ℕ
change_number schema history kept = unwrap_or (last_at schema history (key_in schema.key kept)) 0

-- a table after some entries
abbrev pub table_at : History → Schema → KeptTable
table_at history schema = record {
  schema = schema;
  rows = kept_at schema history;
  numbers = map (change_number schema history) (table_rows schema history);
}

-- a table without rows
abbrev pub empty_table : Schema → KeptTable
empty_table schema =
    record { schema = schema; rows = record { key = schema.key; rows = [] }; numbers = [] }

abbrev pub place_of_key : Key → KeyedRows → Place
place_of_key key set = unwrap_or (find_row set.key key set.rows) 0

-- a table with a new row, and its number
abbrev pub grown_table : BornRow → ℕ → KeptTable → KeptTable
grown_table kept number table =
    let rows = with_row kept table.rows in
    record {
      schema = table.schema;
      rows = rows;
      numbers = insert table.numbers (place_of_key (key_in table.rows.key kept) rows) number;
    }

-- a table with a row inserted, if no row has its key
abbrev pub after_insert : BornRow → ℕ → KeptTable → KeptTable
after_insert kept number table =
    option_map_or (λ place. table) (find_row table.rows.key (key_in table.rows.key kept)
    table.rows.rows)
    (grown_table kept number table)

-- a table with other rows and numbers
abbrev pub kept_with : KeptTable → KeyedRows → List ℕ → KeptTable
kept_with table rows numbers = record { schema = table.schema; rows = rows; numbers = numbers }

-- a table with a row that replaces the one with its key, if there is one
abbrev pub after_update : BornRow → ℕ → KeptTable → KeptTable
after_update kept number table =
    option_map_or (λ place. kept_with table (with_row kept table.rows)
    (slice_set table.numbers place number))
    (find_row table.rows.key (key_in table.rows.key kept) table.rows.rows) table

-- a table without the row with a key, if there is one
abbrev pub after_delete : Key → KeptTable → KeptTable
after_delete key table =
    option_map_or (λ place. kept_with table (without_row key table.rows)
    (remove table.numbers place))
    (find_row table.rows.key key table.rows.rows) table
