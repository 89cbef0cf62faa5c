-- The columns of a select that are resolved, before it is checked further.
use Rattle.std.specs.Prelude.{◌+◌, not, List, [], ◌∷◌, ◌++◌, filter_map, flat_map, Option, None, Some, is_some, if◌then◌else◌}
use Rattle.std.specs.List.{list_any, position_or_len}
use Rattle.hippo_model.specs.declared.name_fault.NameFault.{NameFault}
use Rattle.hippo_model.specs.declared.name_fault.NameFault.TheVariants.{NotGrouped}
use Rattle.hippo_model.specs.declared.query.Out.{Out}
use Rattle.hippo_model.specs.declared.query.Out.TheVariants as shown
use Rattle.hippo_model.specs.declared.query.Ref.{Ref}
use Rattle.hippo_model.specs.declared.schema.Schema.{Schema}
use Rattle.hippo_stmt_ast.specs.declared.statement.RawColumn.{RawColumn}
use Rattle.hippo_stmt_ast.specs.declared.statement.RawOut.{RawOut}
use Rattle.hippo_stmt_ast.specs.declared.statement.RawOut.TheVariants.{Column, Min, Max}
use Rattle.hippo_model.specs.Terms.{Place}
use Rattle.hippo_typing_catalog.specs.Refusals.{fault_if}
use Rattle.hippo_typing_catalog.specs.WrittenColumns.{column_of}
use Rattle.hippo_typing_catalog.specs.Selects.{column_in, same_reference}

abbrev pub with_column : List Schema → RawColumn → RawColumn × Ref
with_column schemas written = (written, column_of schemas written)

abbrev pub with_out : List Schema → RawOut → RawOut × Ref
with_out schemas out = (out, column_of schemas (column_in out))

-- the column of a member that shows a column itself
abbrev pub plain_found : RawOut × Ref → Option (RawColumn × Ref)
plain_found (Column written, column) = Some (written, column)
plain_found (Min argument, column) = None
plain_found (Max argument, column) = None

abbrev pub argument_found : RawOut × Ref → Option Ref
argument_found (Column written, column) = None
argument_found (Min argument, column) = Some column
argument_found (Max argument, column) = Some column

-- a column that is not among the others
abbrev pub lone_found : List (RawColumn × Ref) → RawColumn × Ref → List NameFault
lone_found others (written, column) =
    fault_if (not (list_any (λ other. same_reference column other.1) others))
    (NotGrouped written.column)

abbrev pub groups_found_refused : List (RawOut × Ref) → List (RawColumn × Ref) → List NameFault
groups_found_refused outs by =
    flat_map (lone_found by) (filter_map plain_found outs)
    ++ flat_map (lone_found (filter_map plain_found outs)) by

abbrev pub out_found : List (RawColumn × Ref) → Place → RawOut × Ref → Out
out_found by next (Column written, column) =
    shown.Column (position_or_len (λ found. same_reference column found.1) by)
out_found by next (Min argument, column) = shown.Min next
out_found by next (Max argument, column) = shown.Max next

-- the place of the next argument after this member
abbrev pub next_place : Place → RawOut × Ref → Place
next_place next found = if is_some (argument_found found) then next + 1 else next

abbrev pub shown_found : List (RawColumn × Ref) → Place → List (RawOut × Ref) → List Out
shown_found by next [] = []
shown_found by next (found ∷ rest) =
    out_found by next found ∷ shown_found by (next_place next found) rest
