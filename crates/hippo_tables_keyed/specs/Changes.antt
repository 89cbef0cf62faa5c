-- The effect of one version on a table's kept rows.
use Rattle.std.specs.Prelude.{not, ◌&&◌, Option, None, is_some, option_and_then, bytes_eq}
use Rattle.std.specs.Bool.{then_some}
use Rattle.hippo_values.specs.declared.moments.Moment.{Moment}
use Rattle.hippo_model.specs.declared.born_row.BornRow.{BornRow}
use Rattle.hippo_model.specs.declared.entry.Act.{Act}
use Rattle.hippo_model.specs.declared.entry.Act.TheVariants.{Insert, Update, Delete}
use Rattle.hippo_model.specs.declared.schema.Schema.{Schema}
use Rattle.hippo_model.specs.Terms.{Row}
use Rattle.hippo_model.specs.Rows.{key_of}
use Rattle.hippo_tables_keyed.specs.RowSets.{KeyedRows, with_row, without_row, row_with}
use Rattle.hippo_model.specs.Versions.{row_fits, key_fits}

-- a row replaces the one with its key, and keeps the old row's birth
abbrev pub with_renewed_row : Row → KeyedRows → BornRow → KeyedRows
with_renewed_row row kept old = with_row (record { row = row; born = old.born }) kept

-- a table's kept rows after a version at a moment; None if it is not the table's or does not fit
-- them
abbrev pub changed : Schema → Moment → Act → KeyedRows → Option KeyedRows
changed schema moment (Insert table row) kept =
    let is_new = not (is_some (row_with (key_of schema.key row) kept)) in
    then_some (bytes_eq table schema.name && row_fits schema row && is_new)
    (with_row (record { row = row; born = moment }) kept)
changed schema moment (Update table row) kept =
    option_and_then (λ old. then_some (bytes_eq table schema.name
    && row_fits schema row) (with_renewed_row row kept old))
    (row_with (key_of schema.key row) kept)
changed schema moment (Delete table key) kept =
    then_some (bytes_eq table schema.name && key_fits schema key && is_some (row_with key kept))
    (without_row key kept)
changed schema moment act kept = None
