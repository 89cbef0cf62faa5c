-- How an entry is stored: its number, moment, kind and table, and a body of bytes. The body is in
-- format 2 for a rule with a number of days, else in format 1. Numbers are big-endian, and negative
-- ones are in two's complement. A name is its length in one byte and then its bytes. A long text is
-- its length in four bytes and then its bytes. A list is its count in one byte and then its
-- members.
use Rattle.std.specs.Prelude.{ℕ, ◌+◌, ℤ, List, [], ◌∷◌, ◌++◌, flat_map, length, Option, Some, None}
use Rattle.std.specs.Int.{w32, w64, to_be_bytes, cast_unsigned, from_bool}
use Rattle.hippo_values.specs.declared.names.Name.{Name}
use Rattle.hippo_values.specs.Texts.{Txt}
use Rattle.hippo_values.specs.declared.values.Value.{Value}
use Rattle.hippo_values.specs.declared.values.Value.TheVariants.{Null, Int, Text, Day}
use Rattle.hippo_model.specs.declared.schema.Column.{Column}
use Rattle.hippo_model.specs.declared.schema.ColumnKind.{ColumnKind}
use Rattle.hippo_model.specs.declared.schema.ColumnKind.TheVariants.{Integer, Text as TextColumn, Date}
use Rattle.hippo_model.specs.declared.schema.Schema.{Schema}
use Rattle.hippo_model.specs.declared.entry.Act.{Act}
use Rattle.hippo_model.specs.declared.entry.Act.TheVariants.{Create, Insert, Update, Delete, Purpose, Recipient, Item, Authorize, Deauthorize, Allow, Revoke, Choice, Asked}
use Rattle.hippo_model.specs.declared.entry.Entry.{Entry}
use Rattle.hippo_model.specs.declared.entry.ItemKind.{ItemKind}
use Rattle.hippo_model.specs.declared.entry.ItemKind.TheVariants.{OptIn, OptOut}
use Rattle.hippo_model.specs.declared.stored.StoredEntry.{StoredEntry}

abbrev pub number_bytes : ℕ → List ℕ
number_bytes number = to_be_bytes w64 number

abbrev pub signed_bytes : ℤ → List ℕ
signed_bytes number = to_be_bytes w64 (cast_unsigned w64 number)

abbrev pub day_bytes : ℤ → List ℕ
day_bytes day = to_be_bytes w32 (cast_unsigned w32 day)

abbrev pub name_bytes : Name → List ℕ
name_bytes name = length name ∷ name

abbrev pub text_bytes : Txt → List ℕ
text_bytes text = to_be_bytes w32 (length text) ++ text

abbrev pub list_bytes : {A : Type 0} → (A → List ℕ) → List A → List ℕ
list_bytes member members = length members ∷ flat_map member members

abbrev pub place_bytes : ℕ → List ℕ
place_bytes place = place ∷ []

-- a value: its kind in one byte, and then its content
abbrev pub value_bytes : Value → List ℕ
value_bytes Null = 0 ∷ []
value_bytes (Int number) = 1 ∷ signed_bytes number
value_bytes (Text text) = 2 ∷ text_bytes text
value_bytes (Day day) = 3 ∷ day_bytes day

abbrev pub column_kind : ColumnKind → ℕ
column_kind Integer = 1
column_kind TextColumn = 2
column_kind Date = 3

abbrev pub column_bytes : Column → List ℕ
column_bytes column =
    name_bytes column.name ++ column_kind column.kind ∷ from_bool column.not_null ∷ []

-- 0 if a table has no subject; else the index of the subject's column, counted from 1
abbrev pub subject_byte : Option ℕ → ℕ
subject_byte None = 0
subject_byte (Some place) = place + 1

abbrev pub schema_bytes : Schema → List ℕ
schema_bytes schema =
    name_bytes schema.name ++ list_bytes column_bytes schema.columns
    ++ list_bytes place_bytes schema.key ++ subject_byte schema.subject ∷ []

abbrev pub item_kind : ItemKind → ℕ
item_kind OptIn = 1
item_kind OptOut = 2

abbrev pub item_bytes : Option Name → List ℕ
item_bytes None = 0 ∷ []
item_bytes (Some item) = 1 ∷ name_bytes item

-- the days of a rule in four bytes; nothing for a rule without days
abbrev pub days_bytes : Option ℕ → List ℕ
days_bytes None = []
days_bytes (Some days) = to_be_bytes w32 days

-- the format of an act: 2 for a rule with days, else 1
abbrev pub act_format : Act → ℕ
act_format (Allow purpose recipient table columns item (Some days)) = 2
act_format act = 1

abbrev pub act_kind : Act → ℕ
act_kind (Create schema) = 1
act_kind (Insert table row) = 2
act_kind (Update table row) = 3
act_kind (Delete table key) = 4
act_kind (Purpose name) = 5
act_kind (Recipient name) = 6
act_kind (Item name kind) = 7
act_kind (Authorize user purpose recipient) = 8
act_kind (Deauthorize user purpose recipient) = 9
act_kind (Allow purpose recipient table columns item days) = 10
act_kind (Revoke purpose recipient table columns) = 11
act_kind (Choice subject item agreed) = 12
act_kind (Asked user purpose recipient text) = 13

abbrev pub act_bytes : Act → List ℕ
act_bytes (Create schema) = schema_bytes schema
act_bytes (Insert table row) = name_bytes table ++ list_bytes value_bytes row
act_bytes (Update table row) = name_bytes table ++ list_bytes value_bytes row
act_bytes (Delete table key) = name_bytes table ++ list_bytes value_bytes key
act_bytes (Purpose name) = name_bytes name
act_bytes (Recipient name) = name_bytes name
act_bytes (Item name kind) = name_bytes name ++ item_kind kind ∷ []
act_bytes (Authorize user purpose recipient) =
    name_bytes user ++ name_bytes purpose ++ name_bytes recipient
act_bytes (Deauthorize user purpose recipient) =
    name_bytes user ++ name_bytes purpose ++ name_bytes recipient
act_bytes (Allow purpose recipient table columns item days) =
    name_bytes purpose ++ name_bytes recipient ++ name_bytes table ++ list_bytes place_bytes columns
    ++ item_bytes item ++ days_bytes days
act_bytes (Revoke purpose recipient table columns) =
    name_bytes purpose ++ name_bytes recipient ++ name_bytes table ++ list_bytes place_bytes columns
act_bytes (Choice subject item agreed) =
    signed_bytes subject ++ name_bytes item ++ from_bool agreed ∷ []
act_bytes (Asked user purpose recipient text) =
    name_bytes user ++ name_bytes purpose ++ name_bytes recipient ++ text_bytes text

-- the format, the number, the moment, the kind, and then the content of the act
abbrev pub body : Entry → List ℕ
body entry =
    act_format entry.act ∷ number_bytes entry.seq ++ signed_bytes entry.moment
    ++ act_kind entry.act ∷ act_bytes entry.act

-- the table whose row an act changes; empty if it changes none
abbrev pub table_changed : Act → Txt
table_changed (Insert table row) = table
table_changed (Update table row) = table
table_changed (Delete table key) = table
table_changed act = []

-- the stored form of an entry that can be stored
abbrev pub stored : Entry → StoredEntry
stored entry = record {
  seq = entry.seq;
  moment = entry.moment;
  kind = act_kind entry.act;
  table = table_changed entry.act;
  body = body entry;
}
