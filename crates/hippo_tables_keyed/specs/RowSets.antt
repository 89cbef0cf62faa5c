-- A table's rows as they are kept: sorted by key, each with the moment at which it was born.
use Rattle.std.specs.Prelude.{◌≡◌, ◌≤◌, List, [], ◌∷◌, length, Option, None, Some, if◌then◌else◌, find, position, slice_get, unwrap_or, Result, IsOk, OnOk, OnErr}
use Rattle.std.specs.Option.{IsSome}
use Rattle.std.specs.List.{insert}
use Rattle.std.specs.Ordering.{match_ordering}
use Rattle.std.specs.declared.cmp.Ordering.TheVariants.{Less}
use Rattle.hippo_model.specs.declared.born_row.BornRow.{BornRow}
use Rattle.hippo_model.specs.declared.schema.Schema.{Schema}
use Rattle.hippo_model.specs.Terms.{History, Key, Place, Row}
use Rattle.hippo_values.specs.declared.memory.Memory.{Memory}
use Rattle.hippo_values.specs.declared.moments.Moment.{Moment}
use Rattle.hippo_values.specs.Moments.{first_moment}
use Rattle.hippo_values.specs.Order.{cells_cmp, same_cells}
use Rattle.hippo_values.specs.declared.values.Value.{Value}
use Rattle.hippo_model.specs.Rows.{cell_at, key_of, table_rows}

-- the columns of the key, by their places, and the rows
pub record KeyedRows : Type 0 where
  pub key : List Place
  pub rows : List BornRow

-- a table's rows after some entries
abbrev pub kept_at : Schema → History → KeyedRows
kept_at schema history = record { key = schema.key; rows = table_rows schema history }

-- a row's key
abbrev pub key_in : List Place → BornRow → Key
key_in places kept = key_of places kept.row

abbrev pub IsBelowAll : Key → List Key → Type 0
IsBelowAll key [] = Unit {0}
IsBelowAll key (first ∷ rest) = (cells_cmp key first ≡ Less) × IsBelowAll key rest

-- each key is below those that follow
abbrev pub IsAscending : List Key → Type 0
IsAscending [] = Unit {0}
IsAscending (first ∷ rest) = IsBelowAll first rest × IsAscending rest

-- a row inserted at its place, or replacing the one with its key
abbrev pub put_row : List Place → BornRow → List BornRow → List BornRow
put_row places kept [] = kept ∷ []
put_row places kept (first ∷ rest) =
    match_ordering (cells_cmp (key_in places kept) (key_in places first))
    (kept ∷ first ∷ rest) (kept ∷ rest) (first ∷ put_row places kept rest)

-- the rows without the one with a key
abbrev pub take_row : List Place → Key → List BornRow → List BornRow
take_row places key [] = []
take_row places key (first ∷ rest) =
    if same_cells (key_in places first) key then rest else first ∷ take_row places key rest

-- the set with a row inserted or replaced
abbrev pub with_row : BornRow → KeyedRows → KeyedRows
with_row kept set = record { key = set.key; rows = put_row set.key kept set.rows }

-- the set without the row with a key
abbrev pub without_row : Key → KeyedRows → KeyedRows
without_row key set = record { key = set.key; rows = take_row set.key key set.rows }

-- the place of the row with a key
abbrev pub find_row : List Place → Key → List BornRow → Option Place
find_row places key rows = position (λ kept. same_cells (key_in places kept) key) rows

-- the row with a key
abbrev pub row_with : Key → KeyedRows → Option BornRow
row_with key set = find (λ kept. same_cells (key_in set.key kept) key) set.rows

-- a row that stands in for a missing one
abbrev pub blank : BornRow
blank = record { row = []; born = first_moment }

-- the row at a place; the blank row if there is none
abbrev pub row_at_place : List BornRow → Place → BornRow
row_at_place rows place = unwrap_or (slice_get rows place) blank

-- the value in a column of the row at a place; null if there is none
abbrev pub value_at_place : KeyedRows → Place → Place → Value
value_at_place set column place = cell_at (row_at_place set.rows place).row column

-- the result of a put: the row is inserted or replaces the one with its key; when out of memory
-- nothing changes, and a replacement never is out of memory
pub record Puts (kept : BornRow) (old new : KeyedRows) (result : Result (Unit {0}) Memory)
    : Type 0 where
  pub ok : OnOk result (new ≡ with_row kept old)
  pub err : OnErr result (new ≡ old)
  pub replaces : IsSome (find_row old.key (key_in old.key kept) old.rows) → IsOk result

-- no row of a set has the row's key, and an insert puts the row at this place
pub record IsFree (set : KeyedRows) (row : Row) (place : Place) : Type 0 where
  pub missing : find_row set.key (key_of set.key row) set.rows ≡ None
  pub within : place ≤ length set.rows
  pub put : (born : Moment) → put_row set.key (record { row = row; born = born }) set.rows
      ≡ insert set.rows place (record { row = row; born = born })
  pub found : (born : Moment)
      → find_row set.key (key_of set.key row)
      (put_row set.key (record { row = row; born = born }) set.rows)
      ≡ Some place

-- the result of an insert: nothing changes if a row has the key, otherwise the row is at a place
abbrev pub Inserts : BornRow → KeyedRows → KeyedRows → Option Place → Type 0
Inserts kept old new None = IsSome (find_row old.key (key_in old.key kept) old.rows) × (new ≡ old)
Inserts kept old new (Some place) =
    (find_row old.key (key_in old.key kept) old.rows ≡ None) × (new ≡ with_row kept old)
    × (find_row old.key (key_in old.key kept) new.rows ≡ Some place)
