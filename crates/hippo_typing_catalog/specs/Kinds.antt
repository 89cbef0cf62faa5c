-- The kinds of values, and texts that a statement may not contain.
use Rattle.std.specs.Prelude.{Bool, false, not, ◌||◌, Option, None, Some}
use denote.Enum.Bare.{sameb}
use Rattle.hippo_values.specs.Texts.{keeps_text_rule}
use Rattle.hippo_values.specs.declared.values.Value.{Value}
use Rattle.hippo_values.specs.declared.values.Value.TheVariants.{Null, Int, Text, Day}
use Rattle.hippo_model.specs.contracts.schema.ColumnKind as column_kinds
use Rattle.hippo_model.specs.declared.schema.ColumnKind.{ColumnKind}
use Rattle.hippo_model.specs.declared.schema.ColumnKind.TheVariants.{Integer, Text as TextColumn, Date}
use Rattle.hippo_model.specs.Conditions.{is_null}
use Rattle.hippo_model.specs.Values.{has_kind}

-- the kind of a value; NULL has none
abbrev pub kind_of : Value → Option ColumnKind
kind_of Null = None
kind_of (Int number) = Some Integer
kind_of (Text text) = Some TextColumn
kind_of (Day day) = Some Date

abbrev pub same_kind : ColumnKind → ColumnKind → Bool
same_kind kind other = sameb column_kinds.the_type kind other

-- whether a value may have a kind; NULL may have each
abbrev pub may_have_kind : ColumnKind → Value → Bool
may_have_kind kind value = is_null value || has_kind kind value

-- a text that is too long for a cell, or has a control character
abbrev pub is_bad_text : Value → Bool
is_bad_text (Text text) = not (keeps_text_rule text)
is_bad_text value = false
