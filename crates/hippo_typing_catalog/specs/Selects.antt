-- Why a select is refused, and what it means.
use Rattle.std.specs.Prelude.{◌+◌, Bool, not, ◌&&◌, ◌==◌, List, [], ◌∷◌, ◌++◌, map, filter_map, flat_map, length, codes, Option, None, Some, if◌then◌else◌, bytes_eq}
use Rattle.std.specs.List.{list_any, enumerate_from, range_with_len, position_or_len}
use Rattle.hippo_values.specs.declared.names.Name.{Name}
use Rattle.hippo_model.specs.declared.name_fault.NameFault.{NameFault}
use Rattle.hippo_model.specs.declared.name_fault.NameFault.TheVariants.{UnknownColumn, NotGrouped}
use Rattle.hippo_model.specs.declared.query.Form.{Form}
use Rattle.hippo_model.specs.declared.query.Form.TheVariants.{Plain, Distinct, Grouped}
use Rattle.hippo_model.specs.declared.query.Out.{Out}
use Rattle.hippo_model.specs.declared.query.Out.TheVariants as shown
use Rattle.hippo_model.specs.declared.query.Query.{Query}
use Rattle.hippo_model.specs.declared.query.Ref.{Ref}
use Rattle.hippo_model.specs.declared.schema.Schema.{Schema}
use Rattle.hippo_stmt_ast.specs.declared.statement.RawColumn.{RawColumn}
use Rattle.hippo_stmt_ast.specs.declared.statement.RawForm.{RawForm}
use Rattle.hippo_stmt_ast.specs.declared.statement.RawForm.TheVariants as forms
use Rattle.hippo_stmt_ast.specs.declared.statement.RawItem.{RawItem}
use Rattle.hippo_stmt_ast.specs.declared.statement.RawItem.TheVariants.{All, AllOf, One}
use Rattle.hippo_stmt_ast.specs.declared.statement.RawOut.{RawOut}
use Rattle.hippo_stmt_ast.specs.declared.statement.RawOut.TheVariants.{Column, Min, Max}
use Rattle.hippo_stmt_ast.specs.declared.statement.RawSelect.{RawSelect}
use Rattle.hippo_model.specs.Terms.{Place}
use Rattle.hippo_typing_catalog.specs.Catalogs.{KnownNames, schemas_of}
use Rattle.hippo_typing_catalog.specs.Refusals.{fault_if, unknown_table, repeated_names}
use Rattle.hippo_typing_catalog.specs.WrittenColumns.{may_belong_to, column_refused, column_of}
use Rattle.hippo_typing_catalog.specs.Comparisons.{operands_refused, condition_of, kinds_refused, texts_refused}
use Rattle.hippo_values.specs.Limits.{from_limit, item_limit}
use Rattle.hippo_typing_catalog.specs.StatementLimits.{too_many}

-- the members of a grouped select's list, and the columns of its GROUP BY
abbrev pub outs_of : RawForm → List RawOut
outs_of (forms.Grouped outs by) = outs
outs_of form = []

abbrev pub by_of : RawForm → List RawColumn
by_of (forms.Grouped outs by) = by
by_of form = []

-- the column that a list member shows, or whose least or greatest value it shows
abbrev pub column_in : RawOut → RawColumn
column_in (Column written) = written
column_in (Min argument) = argument
column_in (Max argument) = argument

-- the column, if the member shows the column itself
abbrev pub plain_column : RawOut → Option RawColumn
plain_column (Column written) = Some written
plain_column out = None

abbrev pub argument_in : RawOut → Option RawColumn
argument_in (Column written) = None
argument_in out = Some (column_in out)

-- `t.*` of a table that is not in the statement
abbrev pub star_refused : List Schema → Name → List NameFault
star_refused schemas table =
    fault_if (not (list_any (λ schema. bytes_eq table schema.name) schemas))
    (UnknownColumn (table ++ codes ".*"))

abbrev pub item_refused : List Schema → RawItem → List NameFault
item_refused schemas All = []
item_refused schemas (AllOf table) = star_refused schemas table
item_refused schemas (One written) = column_refused schemas written

-- columns of the list that no table of the statement has, or several have
abbrev pub list_refused : List Schema → List RawItem → RawForm → List NameFault
list_refused schemas items (forms.Grouped outs by) =
    flat_map (λ out. column_refused schemas (column_in out)) outs
list_refused schemas items form = flat_map (item_refused schemas) items

-- the refusals for the columns of the list, of ON and WHERE, and of GROUP BY
abbrev pub columns_refused : List Schema → RawSelect → List NameFault
columns_refused schemas select =
    list_refused schemas select.items select.form ++ operands_refused schemas select.cond
    ++ flat_map (column_refused schemas) (by_of select.form)

abbrev pub same_reference : Ref → Ref → Bool
same_reference a b = a.table == b.table && a.column == b.column

-- a column that is not among the others
abbrev pub ungrouped_column : List Schema → List RawColumn → RawColumn → List NameFault
ungrouped_column schemas others written =
    fault_if (not (list_any (same_reference (column_of schemas written))
    (map (column_of schemas) others)))
    (NotGrouped written.column)

-- the list's columns must be those of GROUP BY, and the other way round
abbrev pub groups_refused : List Schema → List RawOut → List RawColumn → List NameFault
groups_refused schemas outs by =
    flat_map (ungrouped_column schemas by) (filter_map plain_column outs)
    ++ flat_map (ungrouped_column schemas (filter_map plain_column outs)) by

-- the limits: four tables, and 128 members of each list
abbrev pub select_parts_refused : RawSelect → List NameFault
select_parts_refused select =
    too_many from_limit (length select.tables) ++ too_many item_limit (length select.items)
    ++ too_many item_limit (length (outs_of select.form))
    ++ too_many item_limit (length (by_of select.form))

-- in order: unknown tables; repeated tables; columns; grouping; kinds; texts; the number of parts
abbrev pub select_refused : KnownNames → RawSelect → List NameFault
select_refused known select =
    let schemas = schemas_of known select.tables in
    flat_map (unknown_table known) select.tables ++ repeated_names select.tables
    ++ columns_refused schemas select
    ++ groups_refused schemas (outs_of select.form) (by_of select.form)
    ++ kinds_refused schemas (condition_of schemas select.cond)
    ++ texts_refused (condition_of schemas select.cond) ++ select_parts_refused select

-- all columns of a table, in the order of its schema
abbrev pub table_columns : Place → Schema → List Ref
table_columns place schema =
    map (λ column. record { table = place; column = column })
    (range_with_len 0 (length schema.columns))

-- the columns of the tables that a star covers
abbrev pub star_columns : List Schema → Option Name → List Ref
star_columns schemas qualifier =
    flat_map (λ (place, schema). if may_belong_to qualifier schema.name
    then table_columns place schema else [])
    (enumerate_from 0 schemas)

abbrev pub item_columns : List Schema → RawItem → List Ref
item_columns schemas All = star_columns schemas None
item_columns schemas (AllOf table) = star_columns schemas (Some table)
item_columns schemas (One written) = column_of schemas written ∷ []

-- what each member shows: its place among the GROUP BY columns, or the next argument's
abbrev pub shown_outs : List Schema → List Ref → Place → List RawOut → List Out
shown_outs schemas by next [] = []
shown_outs schemas by next (Column written ∷ rest) =
    shown.Column (position_or_len (same_reference (column_of schemas written)) by)
    ∷ shown_outs schemas by next rest
shown_outs schemas by next (Min argument ∷ rest) =
    shown.Min next ∷ shown_outs schemas by (next + 1) rest
shown_outs schemas by next (Max argument ∷ rest) =
    shown.Max next ∷ shown_outs schemas by (next + 1) rest

abbrev pub form_of : List Schema → RawForm → Form
form_of schemas forms.Plain = Plain
form_of schemas forms.Distinct = Distinct
form_of schemas (forms.Grouped outs by) =
    Grouped (record {
      keys = length by;
      outs = shown_outs schemas (map (column_of schemas) by)
          (length by) outs;
    })

-- the columns of the list; for a grouped select those of GROUP BY, then the arguments
abbrev pub listed_columns : List Schema → List RawItem → RawForm → List Ref
listed_columns schemas items (forms.Grouped outs by) =
    map (column_of schemas) by ++ map (column_of schemas) (filter_map argument_in outs)
listed_columns schemas items form = flat_map (item_columns schemas) items

-- what a select means
abbrev pub query_of : KnownNames → RawSelect → Query
query_of known select =
    let schemas = schemas_of known select.tables in
    record {
      items = listed_columns schemas select.items select.form;
      tables = select.tables;
      cond = condition_of schemas select.cond;
      form = form_of schemas select.form;
    }
