-- Which values fit a column.
use Rattle.std.specs.Prelude.{Bool, true, false, not, ◌&&◌}
use Rattle.hippo_values.specs.Texts.{keeps_text_rule}
use Rattle.hippo_values.specs.declared.values.Value.{Value}
use Rattle.hippo_values.specs.declared.values.Value.TheVariants.{Null, Int, Text, Day}
use Rattle.hippo_model.specs.declared.schema.Column.{Column}
use Rattle.hippo_model.specs.declared.schema.ColumnKind.{ColumnKind}
use Rattle.hippo_model.specs.declared.schema.ColumnKind.TheVariants.{Integer, Text as TextColumn, Date}

abbrev pub has_kind : ColumnKind → Value → Bool
has_kind Integer (Int number) = true
has_kind TextColumn (Text text) = true
has_kind Date (Day day) = true
has_kind kind value = false

-- a value fits a column if it is of the column's kind and, if it is a text, keeps the text rule;
-- NULL fits unless the column is NOT NULL
abbrev pub fits : Column → Value → Bool
fits column Null = not column.not_null
fits column (Text text) = has_kind column.kind (Text text) && keeps_text_rule text
fits column value = has_kind column.kind value
