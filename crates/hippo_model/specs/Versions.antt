-- The versions of rows in a history: its inserts, updates and deletes.
use Rattle.std.specs.Prelude.{ℕ, Bool, true, false, not, ◌&&◌, filter_map, count_by, slice_get, is_some, bytes_eq}
use Rattle.std.specs.Cmp.Lexicographic.{pointwise}
use Rattle.hippo_model.specs.declared.entry.Act.{Act}
use Rattle.hippo_model.specs.declared.entry.Act.TheVariants.{Insert, Update, Delete}
use Rattle.hippo_model.specs.declared.schema.Schema.{Schema}
use Rattle.hippo_model.specs.Terms.{History, Row, Key}
use Rattle.hippo_model.specs.Values.{fits}
use Rattle.hippo_model.specs.Rows.{key_of, row_at}

-- a version is an entry that inserts, updates or deletes a row
abbrev pub is_version : Act → Bool
is_version (Insert table row) = true
is_version (Update table row) = true
is_version (Delete table key) = true
is_version act = false

abbrev pub versions : History → ℕ
versions history = count_by (λ entry. is_version entry.act) history

-- a row has one value for each column, and each value fits
abbrev pub row_fits : Schema → Row → Bool
row_fits schema row = pointwise fits schema.columns row

abbrev pub key_fits : Schema → Key → Bool
key_fits schema key = pointwise fits (filter_map (slice_get schema.columns) schema.key) key

abbrev pub is_live : Schema → History → Key → Bool
is_live schema history key = is_some (row_at schema history key)

-- whether a version of a table's rows may follow the entries so far: it inserts a key that is not
-- live, or updates or deletes one that is
abbrev pub version_fits : Schema → History → Act → Bool
version_fits schema history (Insert table row) =
    bytes_eq table schema.name && row_fits schema row
    && not (is_live schema history (key_of schema.key row))
version_fits schema history (Update table row) =
    bytes_eq table schema.name && row_fits schema row
    && is_live schema history (key_of schema.key row)
version_fits schema history (Delete table key) =
    bytes_eq table schema.name && key_fits schema key && is_live schema history key
version_fits schema history act = false
