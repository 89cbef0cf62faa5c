-- Which column of a statement's tables a written column names.
use Rattle.std.specs.Prelude.{Bool, true, List, [], ◌∷◌, ◌++◌, filter_map, position, slice_get, codes, Option, None, Some, option_map, option_and_then, unwrap_or, if◌then◌else◌, bytes_eq}
use Rattle.std.specs.List.{enumerate_from}
use Rattle.std.specs.Option.{option_map_or}
use Rattle.hippo_values.specs.Texts.{Txt}
use Rattle.hippo_values.specs.declared.names.Name.{Name}
use Rattle.hippo_model.specs.declared.name_fault.NameFault.{NameFault}
use Rattle.hippo_model.specs.declared.name_fault.NameFault.TheVariants.{UnknownColumn, AmbiguousColumn}
use Rattle.hippo_model.specs.declared.query.Ref.{Ref}
use Rattle.hippo_model.specs.declared.schema.Column.{Column}
use Rattle.hippo_model.specs.declared.schema.Schema.{Schema}
use Rattle.hippo_stmt_ast.specs.declared.statement.RawColumn.{RawColumn}
use Rattle.hippo_model.specs.Terms.{Place}

-- the place of a table's column
abbrev pub place_of : Schema → Name → Option Place
place_of schema column = position (λ known. bytes_eq column known.name) schema.columns

-- a column as it is written: qualified by its table and a dot, or unqualified
abbrev pub column_text : RawColumn → Txt
column_text written =
    option_map_or (λ table. table ++ codes "." ++ written.column) written.table written.column

-- whether a column with this qualifier, or without one, may belong to the table
abbrev pub may_belong_to : Option Name → Name → Bool
may_belong_to None table = true
may_belong_to (Some qualifier) table = bytes_eq qualifier table

-- the column of this table that a written column may name
abbrev pub home_in : RawColumn → Place → Schema → Option Ref
home_in written place schema =
    if may_belong_to written.table schema.name
    then option_map (λ column. record { table = place; column = column })
    (place_of schema written.column) else None

-- the columns of the statement's tables that a written column may name
abbrev pub candidate_columns : List Schema → RawColumn → List Ref
candidate_columns schemas written =
    filter_map (λ (place, schema). home_in written place schema) (enumerate_from 0 schemas)

-- there must be exactly one
abbrev pub homes_refused : RawColumn → List Ref → List NameFault
homes_refused written [] = UnknownColumn (column_text written) ∷ []
homes_refused written (home ∷ []) = []
homes_refused written (home ∷ other ∷ rest) = AmbiguousColumn written.column ∷ []

abbrev pub column_refused : List Schema → RawColumn → List NameFault
column_refused schemas written = homes_refused written (candidate_columns schemas written)

-- the column that a written column names
abbrev pub column_of : List Schema → RawColumn → Ref
column_of schemas written =
    unwrap_or (slice_get (candidate_columns schemas written) 0) (record { table = 0; column = 0 })

-- a column of a statement's tables, from its schema
abbrev pub column_at : List Schema → Ref → Option Column
column_at schemas reference =
    option_and_then (λ schema. slice_get schema.columns reference.column)
    (slice_get schemas reference.table)
