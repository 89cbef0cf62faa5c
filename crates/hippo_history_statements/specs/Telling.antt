-- The statement that made an entry, spelled as a user would type it.
use Rattle.std.specs.Prelude.{ℕ, ℤ, ◌++◌, Bool, true, false, not, List, [], ◌∷◌, filter, length, nat_eq, slice_get, Option, Some, None, option_and_then, codes, decimal}
use Rattle.std.specs.Fmt.{signed_decimal}
use Rattle.std.specs.List.{list_any, range_with_len, zip}
use Rattle.std.specs.Option.{option_map_or}
use Rattle.hippo_values_text.specs.Dates.{day_text, moment_text}
use Rattle.hippo_values_text.specs.Quoting.{quoted_text}
use Rattle.hippo_values.specs.Texts.{Txt}
use Rattle.hippo_values.specs.declared.names.Name.{Name}
use Rattle.hippo_values.specs.declared.values.Value.{Value}
use Rattle.hippo_values.specs.declared.values.Value.TheVariants as values
use Rattle.hippo_model.specs.declared.entry.Act.{Act}
use Rattle.hippo_model.specs.declared.entry.Act.TheVariants.{Create, Insert, Update, Delete, Purpose, Recipient, Item, Authorize, Deauthorize, Allow, Revoke, Choice, Asked}
use Rattle.hippo_model.specs.declared.entry.Entry.{Entry}
use Rattle.hippo_model.specs.declared.entry.ItemKind.{ItemKind}
use Rattle.hippo_model.specs.declared.entry.ItemKind.TheVariants.{OptIn, OptOut}
use Rattle.hippo_model.specs.declared.schema.Column.{Column}
use Rattle.hippo_model.specs.declared.schema.ColumnKind.{ColumnKind}
use Rattle.hippo_model.specs.declared.schema.ColumnKind.TheVariants as kinds
use Rattle.hippo_model.specs.declared.schema.Schema.{Schema}
use Rattle.hippo_model.specs.Histories.{before_entry, schema_at}
use Rattle.hippo_model.specs.Rows.{cell_at}
use Rattle.hippo_model.specs.Terms.{History, Key, Place, Row}
use Rattle.hippo_report.specs.Cells.{separated_text, comma}

-- a value as a literal
abbrev pub literal_text : Value → Txt
literal_text values.Null = codes "NULL"
literal_text (values.Int number) = signed_decimal number
literal_text (values.Text text) = quoted_text text
literal_text (values.Day day) = codes "DATE '" ++ (day_text day ++ codes "'")

abbrev pub literals_text : List Value → Txt
literals_text literals = separated_text literal_text comma literals

-- the type of a column in CREATE TABLE
abbrev pub kind_text : ColumnKind → Txt
kind_text kinds.Integer = codes " INTEGER"
kind_text kinds.Text = codes " TEXT"
kind_text kinds.Date = codes " DATE"

abbrev pub not_null_text : Bool → Txt
not_null_text true = codes " NOT NULL"
not_null_text false = []

abbrev pub column_definition : Column → Txt
column_definition column = column.name ++ (kind_text column.kind ++ not_null_text column.not_null)

-- the name of the column at a place, and then the names of the columns at some places
abbrev pub name_at : List Column → Place → Txt
name_at columns place = option_map_or (λ column. column.name) (slice_get columns place) []

abbrev pub names_text : List Column → List Place → Txt
names_text columns places = separated_text (name_at columns) comma places

-- a column with a value, in SET or as part of a key
abbrev pub assigned_text : List Column → Place → Value → Txt
assigned_text columns place value = name_at columns place ++ (codes " = " ++ literal_text value)

-- columns with the values of a row
abbrev pub row_text : List Column → Row → Txt → List Place → Txt
row_text columns row separator places =
    separated_text (λ place. assigned_text columns place (cell_at row place)) separator places

-- the columns of a key with their values
abbrev pub key_text : List Column → List Place → Key → Txt
key_text columns places key =
    separated_text (λ (place, value). assigned_text columns place value) (codes " AND ")
    (zip places key)

-- the places of the columns outside the key
abbrev pub is_set : List Place → Place → Bool
is_set key place = not (list_any (nat_eq place) key)

abbrev pub set_places : List Column → List Place → List Place
set_places columns key = filter (is_set key) (range_with_len 0 (length columns))

abbrev pub subject_text : List Column → Option Place → Txt
subject_text columns None = []
subject_text columns (Some place) = codes ", SUBJECT " ++ name_at columns place

-- columns, PRIMARY KEY and SUBJECT
abbrev pub create_text : Schema → Txt
create_text schema =
    codes "CREATE TABLE " ++ (schema.name
    ++ (codes " (" ++ (separated_text column_definition comma schema.columns
    ++ (codes ", PRIMARY KEY (" ++ (names_text schema.columns schema.key
    ++ (codes ")" ++ (subject_text schema.columns schema.subject ++ codes ")")))))))

abbrev pub insert_text : Name → Row → Txt
insert_text table row =
    codes "INSERT INTO " ++ (table ++ (codes " VALUES (" ++ (literals_text row ++ codes ")")))

-- Every column outside the key is set. If there is none, the text is not a statement; no statement
-- makes such an act.
abbrev pub update_text : List Column → List Place → Name → Row → Txt
update_text columns key table row =
    codes "UPDATE " ++ (table ++ (codes " SET "
    ++ (row_text columns row comma (set_places columns key)
    ++ (codes " WHERE " ++ row_text columns row (codes " AND ") key))))

-- an UPDATE that sets one column
abbrev pub set_text : List Column → List Place → Name → Row → Place → Txt
set_text columns key table row place =
    codes "UPDATE " ++ (table ++ (codes " SET " ++ (row_text columns row comma (place ∷ [])
    ++ (codes " WHERE " ++ row_text columns row (codes " AND ") key))))

abbrev pub delete_text : List Column → List Place → Name → Key → Txt
delete_text columns places table key =
    codes "DELETE FROM " ++ (table ++ (codes " WHERE " ++ key_text columns places key))

abbrev pub item_kind_text : ItemKind → Txt
item_kind_text OptIn = codes " OPT IN"
item_kind_text OptOut = codes " OPT OUT"

abbrev pub item_text : Name → ItemKind → Txt
item_text item kind = codes "CREATE ITEM " ++ (item ++ item_kind_text kind)

-- the text after AUTHORIZE or DEAUTHORIZE
abbrev pub grant_text : Name → Name → Name → Txt
grant_text user purpose recipient =
    user ++ (codes " FOR " ++ (purpose ++ (codes ", " ++ recipient)))

-- the text after ALLOW or REVOKE
abbrev pub rule_text : List Column → Name → Name → Name → List Place → Txt
rule_text columns purpose recipient table places =
    purpose ++ (codes " TO " ++ (recipient ++ (codes " ON " ++ (table
    ++ (codes " (" ++ (names_text columns places ++ codes ")"))))))

abbrev pub with_text : Option Name → Txt
with_text None = []
with_text (Some item) = codes " WITH " ++ item

abbrev pub retention_text : Option ℕ → Txt
retention_text None = []
retention_text (Some days) = codes " RETAIN " ++ (decimal days ++ codes " DAYS")

abbrev pub allow_text : List Column → Name → Name → Name → List Place → Option Name → Option ℕ → Txt
allow_text columns purpose recipient table places item days =
    codes "ALLOW " ++ (rule_text columns purpose recipient table places
    ++ (with_text item ++ retention_text days))

abbrev pub agreed_text : Bool → Txt
agreed_text true = codes " IS YES"
agreed_text false = codes " IS NO"

abbrev pub choice_text : ℤ → Name → Bool → Txt
choice_text subject item agreed =
    codes "CHOICE " ++ (signed_decimal subject ++ (codes " ON " ++ (item ++ agreed_text agreed)))

-- who asked, and the question
abbrev pub asked_text : Name → Name → Name → Txt → Txt
asked_text user purpose recipient text =
    user ++ (codes " " ++ (purpose ++ (codes " " ++ (recipient ++ (codes " " ++ text)))))

-- the columns, and then the key, of a table; none if there is no such table
abbrev pub columns_of : Option Schema → List Column
columns_of schema = option_map_or (λ known. known.columns) schema []

abbrev pub key_places : Option Schema → List Place
key_places schema = option_map_or (λ known. known.key) schema []

-- the statement that made an act, with the schema of the table that it names; a question is written
-- as its user, purpose, recipient and text
abbrev pub act_statement : Option Schema → Act → Txt
act_statement schema (Create made) = create_text made
act_statement schema (Insert table row) = insert_text table row
act_statement schema (Update table row) =
    update_text (columns_of schema) (key_places schema) table row
act_statement schema (Delete table key) =
    delete_text (columns_of schema) (key_places schema) table key
act_statement schema (Purpose purpose) = codes "CREATE PURPOSE " ++ purpose
act_statement schema (Recipient recipient) = codes "CREATE RECIPIENT " ++ recipient
act_statement schema (Item item kind) = item_text item kind
act_statement schema (Authorize user purpose recipient) =
    codes "AUTHORIZE " ++ grant_text user purpose recipient
act_statement schema (Deauthorize user purpose recipient) =
    codes "DEAUTHORIZE " ++ grant_text user purpose recipient
act_statement schema (Allow purpose recipient table places item days) =
    allow_text (columns_of schema) purpose recipient table places item days
act_statement schema (Revoke purpose recipient table places) =
    codes "REVOKE " ++ rule_text (columns_of schema) purpose recipient table places
act_statement schema (Choice subject item agreed) = choice_text subject item agreed
act_statement schema (Asked user purpose recipient text) = asked_text user purpose recipient text

-- the table whose columns an act names by their places, or whose rows it changes
abbrev pub table_named : Act → Option Name
table_named (Insert table row) = Some table
table_named (Update table row) = Some table
table_named (Delete table key) = Some table
table_named (Allow purpose recipient table places item days) = Some table
table_named (Revoke purpose recipient table places) = Some table
table_named act = None

-- the schema of that table, as it was before the entry
abbrev pub schema_before : History → Entry → Option Schema
schema_before history entry =
    option_and_then (schema_at (before_entry entry history)) (table_named entry.act)

-- an entry as its number, its moment and its statement
abbrev pub entry_line : Option Schema → Entry → Txt
entry_line schema entry =
    decimal entry.seq ++ (codes " " ++ (moment_text entry.moment
    ++ (codes " " ++ (act_statement schema entry.act ++ codes "\n"))))

-- an entry of a history
abbrev pub told_entry : History → Entry → Txt
told_entry history entry = entry_line (schema_before history entry) entry
