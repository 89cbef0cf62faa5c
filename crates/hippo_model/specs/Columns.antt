-- Which columns a query names.
use Rattle.std.specs.Prelude.{Bool, ◌&&◌, ◌==◌, List, [], ◌∷◌, ◌++◌, map, flat_map, slice_index_or, bytes_eq}
use Rattle.std.specs.List.{list_any, list_all}
use Rattle.hippo_values.specs.declared.names.Name.{Name}
use Rattle.hippo_model.specs.declared.query.Ref.{Ref}
use Rattle.hippo_model.specs.declared.query.Operand.{Operand}
use Rattle.hippo_model.specs.declared.query.Operand.TheVariants.{Column, Literal}
use Rattle.hippo_model.specs.declared.query.CondOf.{CondOf}
use Rattle.hippo_model.specs.declared.query.Query.{Query}
use Rattle.hippo_model.specs.declared.audit.Audit.{Audit}
use Rattle.hippo_model.specs.Terms.{Place}
use Rattle.hippo_model.specs.Conditions.{operands}

abbrev pub columns_in : Operand → List Ref
columns_in (Column column) = column ∷ []
columns_in (Literal value) = []

-- the columns of a condition's operands
abbrev pub condition_columns : CondOf Operand → List Ref
condition_columns condition = flat_map columns_in (operands condition)

-- a column, as its table's name and its index in the table
abbrev pub named_column : List Name → Ref → Name × Place
named_column tables column = (slice_index_or tables column.table [], column.column)

-- the columns that occur anywhere in a query: as an item, as an argument, in GROUP BY, in ON or in
-- WHERE
abbrev pub query_columns : Query → List (Name × Place)
query_columns query = map (named_column query.tables) (query.items ++ condition_columns query.cond)

abbrev pub same_column : Name × Place → Name × Place → Bool
same_column a b = bytes_eq a.0 b.0 && a.1 == b.1

-- whether a query names every audited column
abbrev pub names_all : Query → Audit → Bool
names_all query audit =
    list_all (λ column. list_any (same_column (named_column audit.tables column))
    (query_columns query)) audit.columns
