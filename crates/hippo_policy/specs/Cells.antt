-- The rules that a book keeps of the cells of tables.
use Rattle.std.specs.Prelude.{List, [], slice_get, Option}
use Rattle.std.specs.HashMap.{get}
use Rattle.std.specs.Option.{option_map_or}
use Rattle.hippo_model.specs.Rules.{Rule}
use Rattle.hippo_model.specs.Terms.{Place}
use Rattle.hippo_policy.specs.declared.keys.CellKey.{CellKey}
use Rattle.hippo_policy.specs.declared.ruled_columns.RuledColumns.{RuledColumns}
use Rattle.hippo_policy.specs.declared.ruled_tables.RuledTables.{RuledTables}
use Rattle.hippo_policy.specs.Keys.{same_table}
use Rattle.hippo_policy.specs.Words.{Said}

-- the rules of a column
abbrev pub column_words : RuledColumns → Place → List (Said Rule)
column_words kept column =
    option_map_or (λ words. words.said.items) (slice_get kept.columns.items column) []

-- the rules of a column; none without a table
abbrev pub words_in : Option RuledColumns → Place → List (Said Rule)
words_in kept column = option_map_or (λ columns. column_words columns column) kept []

-- the rules of a cell
abbrev pub cell_words : RuledTables → CellKey → List (Said Rule)
cell_words kept cell = words_in (get same_table kept.tables cell.table) cell.column
