-- Whether a statement names a column.
use Rattle.std.specs.Prelude.{Bool, List, map}
use Rattle.std.specs.List.{list_any}
use Rattle.hippo_values.specs.declared.names.Name.{Name}
use Rattle.hippo_model.specs.declared.query.Ref.{Ref}
use Rattle.hippo_model.specs.Terms.{Place}
use Rattle.hippo_model.specs.Columns.{named_column, same_column}

-- the column, given by the name of its table, is one of these columns of a statement over these
-- tables
abbrev pub is_named : Name × Place → List Name → List Ref → Bool
is_named column tables columns = list_any (same_column column) (map (named_column tables) columns)
