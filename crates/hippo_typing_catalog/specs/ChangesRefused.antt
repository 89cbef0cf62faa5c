-- Why a changing statement is refused.
use Rattle.std.specs.Prelude.{Bool, false, not, ◌&&◌, ◌==◌, List, [], ◌++◌, map, filter_map, flat_map, length, nat_eq, nat_le, slice_get, Option, None, is_some, is_none, option_and_then, option_to_list}
use Rattle.std.specs.List.{list_any, list_all, zip}
use Rattle.std.specs.Option.{option_map_or}
use Rattle.hippo_values.specs.Limits.{table_limit, column_limit}
use Rattle.hippo_values.specs.declared.names.Name.{Name}
use Rattle.hippo_values.specs.declared.values.Value.{Value}
use Rattle.hippo_model.specs.declared.name_fault.NameFault.{NameFault}
use Rattle.hippo_model.specs.declared.name_fault.NameFault.TheVariants.{UnknownColumn, AlreadyThere, TypeMismatch, NullNotAllowed, WrongCount, KeyChanged, NoSubject, BadText, NotTheKey, TooManyParts}
use Rattle.hippo_model.specs.declared.schema.Column.{Column}
use Rattle.hippo_model.specs.declared.schema.Schema.{Schema}
use Rattle.hippo_stmt_ast.specs.declared.statement.Stmt.{Stmt}
use Rattle.hippo_stmt_ast.specs.declared.statement.Stmt.TheVariants.{CreateTable, CreatePurpose, CreateRecipient, CreateItem, Authorize, Deauthorize, Allow, Revoke, Choice, Insert, Update, Delete}
use Rattle.hippo_model.specs.Conditions.{is_null}
use Rattle.hippo_model.specs.Terms.{Place}
use Rattle.hippo_model.specs.Validity.{is_integer, has_subject}
use Rattle.hippo_typing_catalog.specs.Catalogs.{KnownNames, table_of, has_purpose, has_recipient, item_of}
use Rattle.hippo_typing_catalog.specs.Kinds.{may_have_kind, is_bad_text}
use Rattle.hippo_typing_catalog.specs.Refusals.{fault_if, unknown_table, unknown_pair, unknown_item, repeated_names}
use Rattle.hippo_typing_catalog.specs.StatementLimits.{too_many}
use Rattle.hippo_typing_catalog.specs.WrittenColumns.{place_of}

-- the column of a table with this name
abbrev pub column_named : Schema → Name → Option Column
column_named schema name = option_and_then (slice_get schema.columns) (place_of schema name)

-- the places of a table's columns with these names
abbrev pub places_named : Schema → List Name → List Place
places_named schema names = filter_map (place_of schema) names

-- the refusals for a table or a column, if it exists
abbrev pub in_table : KnownNames → Name → (Schema → List NameFault) → List NameFault
in_table known table refusals = option_map_or refusals (table_of known table) []

abbrev pub in_column : Schema → Name → (Column → List NameFault) → List NameFault
in_column schema name refusals = option_map_or refusals (column_named schema name) []

-- a name that should be new but exists
abbrev pub known_name_refused : Bool → Name → List NameFault
known_name_refused is_there name = fault_if is_there (AlreadyThere name)

abbrev pub unknown_item_if_any : KnownNames → Option Name → List NameFault
unknown_item_if_any known item = flat_map (unknown_item known) (option_to_list item)

-- columns that the table does not have
abbrev pub unknown_columns : Schema → List Name → List NameFault
unknown_columns schema names =
    flat_map (λ name. fault_if (is_none (place_of schema name)) (UnknownColumn name)) names

-- a SUBJECT that is not INTEGER
abbrev pub subject_refused : Schema → Option Name → List NameFault
subject_refused schema subject =
    flat_map (λ name. in_column schema name
    (λ column. fault_if (not (is_integer column.kind)) TypeMismatch))
    (option_to_list subject)

-- an item, if the table has no SUBJECT
abbrev pub rule_item_refused : Option Name → Schema → List NameFault
rule_item_refused item schema =
    fault_if (is_some item && not (has_subject schema)) (NoSubject schema.name)

-- a number of values that differs from the number of columns
abbrev pub count_refused : Schema → List Value → List NameFault
count_refused schema values =
    fault_if (not (length values == length schema.columns)) (WrongCount (length schema.columns))

-- whether these are the places of the key's columns, each once
abbrev pub is_the_key : Schema → List Place → Bool
is_the_key schema places =
    length places == length schema.key && list_all
    (λ place. list_any (nat_eq place) places) schema.key

abbrev pub key_refused : Schema → List Name → List NameFault
key_refused schema names = fault_if (not (is_the_key schema (places_named schema names))) NotTheKey

abbrev pub is_of_key : Schema → Name → Bool
is_of_key schema name =
    option_map_or (λ place. list_any (nat_eq place) schema.key) (place_of schema name) false

-- assigned columns of the key
abbrev pub key_changed : Schema → List Name → List NameFault
key_changed schema names =
    flat_map (λ name. fault_if (is_of_key schema name) (KeyChanged name)) names

-- a value not of its column's kind; NULL for a NOT NULL column; a text that a cell may not hold
abbrev pub kind_refused : Column → Value → List NameFault
kind_refused column value = fault_if (not (may_have_kind column.kind value)) TypeMismatch

abbrev pub null_refused : Column → Value → List NameFault
null_refused column value = fault_if (is_null value && column.not_null) (NullNotAllowed column.name)

abbrev pub text_refused : Column → Value → List NameFault
text_refused column value = fault_if (is_bad_text value) BadText

-- the refusals of each value of a row
abbrev pub row_refused : (Column → Value → List NameFault) → List Column → List Value
    → List NameFault
row_refused refusals columns values =
    flat_map (λ (column, value). refusals column value) (zip columns values)

-- the refusals of each value that is assigned to a column by name
abbrev pub assigned_refused : (Column → Value → List NameFault) → Schema → List (Name × Value)
    → List NameFault
assigned_refused refusals schema assigned =
    flat_map (λ (name, value). in_column schema name (λ column. refusals column value)) assigned

-- a table with these columns, before its key is known
abbrev pub keyless_table : Name → List Column → Schema
keyless_table table columns = record { name = table; columns = columns; key = []; subject = None }

-- too many columns, or too many tables
abbrev pub sizes_refused : KnownNames → List Column → List NameFault
sizes_refused known columns =
    too_many column_limit (length columns)
    ++ fault_if (nat_le table_limit (length known.tables)) (TooManyParts table_limit)

-- in order: names repeated among the columns, or in the key; key columns, and a SUBJECT, that the
-- table does not have; the SUBJECT's kind; the sizes; the table's name
abbrev pub create_refused : KnownNames → Name → List Column → List Name → Option Name
    → List NameFault
create_refused known table columns key subject =
    repeated_names (map (λ column. column.name) columns) ++ repeated_names key
    ++ unknown_columns (keyless_table table columns) (key ++ option_to_list subject)
    ++ subject_refused (keyless_table table columns) subject ++ sizes_refused known columns
    ++ known_name_refused (is_some (table_of known table)) table

-- repeated columns of a rule, and columns that the table does not have
abbrev pub rule_refused : List Name → Schema → List NameFault
rule_refused columns schema = repeated_names columns ++ unknown_columns schema columns

-- in order: the number of values; their kinds; NULL; texts
abbrev pub insert_refused : List Value → Schema → List NameFault
insert_refused values schema =
    count_refused schema values ++ row_refused kind_refused schema.columns values
    ++ row_refused null_refused schema.columns values
    ++ row_refused text_refused schema.columns values

-- in order: the kinds of the assigned values; NULL; texts
abbrev pub assignments_refused : Schema → List (Name × Value) → List NameFault
assignments_refused schema assigned =
    assigned_refused kind_refused schema assigned ++ assigned_refused null_refused schema assigned
    ++ assigned_refused text_refused schema assigned

-- in order: repeated columns, or columns that the table does not have; columns of WHERE that are
-- not the key; assigned key columns; the assigned values
abbrev pub update_refused : List Name → List Value → List Name → List Value → Schema
    → List NameFault
update_refused columns values keys key_values schema =
    repeated_names columns ++ repeated_names keys ++ unknown_columns schema (columns ++ keys)
    ++ key_refused schema keys ++ key_changed schema columns
    ++ assignments_refused schema (zip columns values ++ zip keys key_values)

abbrev pub delete_refused : List Name → List Value → Schema → List NameFault
delete_refused keys values schema =
    repeated_names keys ++ unknown_columns schema keys ++ key_refused schema keys
    ++ assignments_refused schema (zip keys values)

-- the refusals of a changing statement; any other statement has none
abbrev pub change_refused : KnownNames → Stmt → List NameFault
change_refused known (CreateTable table columns key subject) =
    create_refused known table columns key subject
change_refused known (CreatePurpose purpose) =
    known_name_refused (has_purpose known purpose) purpose
change_refused known (CreateRecipient recipient) =
    known_name_refused (has_recipient known recipient) recipient
change_refused known (CreateItem item kind) = known_name_refused (is_some (item_of known item)) item
change_refused known (Authorize user purpose recipient) = unknown_pair known purpose recipient
change_refused known (Deauthorize user purpose recipient) = unknown_pair known purpose recipient
change_refused known (Allow purpose recipient table columns item days) =
    unknown_table known table ++ unknown_pair known purpose recipient
    ++ unknown_item_if_any known item ++ in_table known table (rule_refused columns)
    ++ in_table known table (rule_item_refused item)
change_refused known (Revoke purpose recipient table columns) =
    unknown_table known table ++ unknown_pair known purpose recipient
    ++ in_table known table (rule_refused columns)
change_refused known (Choice subject item agreed) = unknown_item known item
change_refused known (Insert table values) =
    unknown_table known table ++ in_table known table (insert_refused values)
change_refused known (Update table columns values keys key_values) =
    unknown_table known table ++ in_table known table
    (update_refused columns values keys key_values)
change_refused known (Delete table keys values) =
    unknown_table known table ++ in_table known table (delete_refused keys values)
change_refused known statement = []
