-- Which rows a table has (the backlog tables of Agrawal and others, Auditing Compliance with a
-- Hippocratic Database, VLDB 2004).
use Rattle.std.specs.Prelude.{ℕ, Bool, true, false, ◌&&◌, List, [], ◌∷◌, map, filter_map, Option, Some, None, unwrap_or, option_map, option_and_then, slice_index_or, bytes_eq}
use Rattle.std.specs.Bool.{then_some}
use Rattle.std.specs.Option.{option_map_or}
use Rattle.std.specs.Ordering.{match_ordering}
use Rattle.hippo_values.specs.Moments.{first_moment}
use Rattle.hippo_values.specs.declared.moments.Moment.{Moment}
use Rattle.hippo_values.specs.declared.values.Value.{Value}
use Rattle.hippo_values.specs.declared.values.Value.TheVariants.{Null}
use Rattle.hippo_model.specs.declared.born_row.BornRow.{BornRow}
use Rattle.hippo_model.specs.declared.schema.Schema.{Schema}
use Rattle.hippo_model.specs.declared.entry.Entry.{Entry}
use Rattle.hippo_model.specs.declared.entry.Act.{Act}
use Rattle.hippo_model.specs.declared.entry.Act.TheVariants.{Insert, Update, Delete}
use Rattle.hippo_model.specs.Terms.{History, Row, Key, Place}
use Rattle.hippo_values.specs.Order.{cells_cmp, same_cells}
use Rattle.hippo_model.specs.Histories.{last_word}

-- the value in a column of a row
abbrev pub cell_at : Row → Place → Value
cell_at row place = slice_index_or row place Null

-- a row's values in the key's columns, in the key's order
abbrev pub key_of : List Place → Row → Key
key_of places row = map (cell_at row) places

-- the key that a change of the table names
abbrev pub key_named : Schema → Act → Option Key
key_named schema (Insert table row) = then_some (bytes_eq table schema.name) (key_of schema.key row)
key_named schema (Update table row) = then_some (bytes_eq table schema.name) (key_of schema.key row)
key_named schema (Delete table key) = then_some (bytes_eq table schema.name) key
key_named schema act = None

abbrev pub names_key : Schema → Key → Act → Bool
names_key schema key act =
    option_map_or (λ named. same_cells named key) (key_named schema act) false

-- the row after a change: the change's own row, or none if it deletes
abbrev pub row_left : Act → Option Row
row_left (Insert table row) = Some row
row_left (Update table row) = Some row
row_left act = None

-- the row with a key is that of the last change that names the key
abbrev pub row_at : Schema → History → Key → Option Row
row_at schema history key =
    option_and_then (λ left. left)
    (last_word (λ entry. then_some (names_key schema key entry.act) (row_left entry.act)) history)

-- the number of the last change that names the key
abbrev pub last_at : Schema → History → Key → Option ℕ
last_at schema history key =
    last_word (λ entry. then_some (names_key schema key entry.act) entry.seq) history

abbrev pub is_insert : Act → Bool
is_insert (Insert table row) = true
is_insert act = false

-- the moment of the last INSERT of the key; the first moment if there is none
abbrev pub born_at : Schema → History → Key → Moment
born_at schema history key =
    let inserts : Entry → Bool = λ entry. is_insert entry.act && names_key schema key entry.act in
    unwrap_or (last_word (λ entry. then_some (inserts entry) entry.moment) history) first_moment

-- the row with a key, and its birth
abbrev pub born_row_at : Schema → History → Key → Option BornRow
born_row_at schema history key =
    option_map (λ row. record { row = row; born = born_at schema history key })
    (row_at schema history key)

-- inserts a key into a sorted list, unless it is there already
abbrev pub insert_key : Key → List Key → List Key
insert_key key [] = key ∷ []
insert_key key (first ∷ rest) =
    match_ordering (cells_cmp key first) (key ∷ first ∷ rest) (first ∷ rest)
    (first ∷ insert_key key rest)

abbrev pub with_key : Option Key → List Key → List Key
with_key None keys = keys
with_key (Some key) keys = insert_key key keys

-- the keys that changes of the table name, in ascending order
abbrev pub keys_named : Schema → History → List Key
keys_named schema [] = []
keys_named schema (entry ∷ later) = with_key (key_named schema entry.act) (keys_named schema later)

-- the rows of a table with their births, in ascending order of their keys
abbrev pub table_rows : Schema → History → List BornRow
table_rows schema history = filter_map (born_row_at schema history) (keys_named schema history)
