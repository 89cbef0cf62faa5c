-- Secondary orders of a table's rows, by a column.
use Rattle.std.specs.Prelude.{◌≡◌, ◌<◌, ◌≤◌, suc, List, ◌∷◌, length, None, Some, IfSome, option_map, slice_get}
use Rattle.std.specs.List.{All, Contains, range_with_len}
use Rattle.hippo_values.specs.declared.values.Value.{Value}
use Rattle.hippo_model.specs.declared.born_row.BornRow.{BornRow}
use Rattle.hippo_tables_rows.specs.declared.column_order.ColumnOrder.{ColumnOrder}
use Rattle.hippo_model.specs.Terms.{Key, Place, Row}
use Rattle.hippo_model.specs.Rows.{cell_at, key_of}
use Rattle.hippo_tables_keyed.specs.RowSets.{KeyedRows, key_in, find_row, row_with, with_row}

-- a row's entry: its value in a column, and then its key
abbrev pub order_key : Place → List Place → Row → Key
order_key column key row = cell_at row column ∷ key_of key row

-- the entries contain this entry
abbrev pub HasOrderKey : KeyedRows → Key → Type 0
HasOrderKey entries entry = option_map (λ kept. kept.row) (row_with entry entries) ≡ Some entry

-- entries are their own keys, and contain the entry of each row of a set; entries of former rows
-- may be left over
pub record AreOrderKeysOf (column : Place) (set entries : KeyedRows) : Type 0 where
  pub key : entries.key ≡ range_with_len 0 (suc (length set.key))
  pub covers : (own : Key) → IfSome (row_with own set)
      (λ kept. HasOrderKey entries (order_key column set.key kept.row))

-- the entries contain those of the rows at some places
pub record AreEntered (column : Place) (set : KeyedRows) (places : List Place) (entries : KeyedRows)
    : Type 0 where
  pub key : entries.key ≡ range_with_len 0 (suc (length set.key))
  pub each : (place : Place) → Contains places place → (kept : BornRow)
      → slice_get set.rows place ≡ Some kept
      → HasOrderKey entries (order_key column set.key kept.row)

-- an order belongs to a set, if it has entries
abbrev pub IsOrderOf : KeyedRows → ColumnOrder → Type 0
IsOrderOf set order = IfSome order.entries (λ entries. AreOrderKeysOf order.column set entries)

abbrev pub AreOrdersOf : KeyedRows → List ColumnOrder → Type 0
AreOrdersOf set orders = All (IsOrderOf set) orders

-- entries are ready for a row that will be put into their set; if the row's key is new, they also
-- still belong to the set
abbrev pub AreReadyFor : Place → BornRow → KeyedRows → KeyedRows → Type 0
AreReadyFor column kept set entries =
    AreOrderKeysOf column (with_row kept set) entries
    × (find_row set.key (key_in set.key kept) set.rows ≡ None → AreOrderKeysOf column set entries)

abbrev pub IsReadyFor : BornRow → KeyedRows → ColumnOrder → Type 0
IsReadyFor kept set order =
    IfSome order.entries (λ entries. AreReadyFor order.column kept set entries)

-- some places include those of the rows whose entries are in a range
abbrev pub AreGathered : KeyedRows → KeyedRows → Place → Place → List Place → Type 0
AreGathered entries set start end found =
    (at : Place) → start ≤ at → at < end → (entry : BornRow)
    → slice_get entries.rows at ≡ Some entry
    → (cell : Value) (kept : BornRow) (place : Place) → slice_get set.rows place ≡ Some kept
    → entry.row ≡ cell ∷ key_of set.key kept.row → Contains found place
