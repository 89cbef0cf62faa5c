-- How an entry is read from bytes, part by part. The entry read from a body counts only if its own
-- bytes are the whole body: nothing here checks what follows the last part.
use Rattle.std.specs.Prelude.{◌≡◌, ℕ, zero, suc, ◌-◌, ◌==◌, ◌||◌, ℤ, Bool, true, false, nat_lt, List, [], ◌∷◌, length}
use Rattle.std.specs.Prelude.{take, drop, Option, Some, None, if◌then◌else◌, Result, Ok, Err}
use denote.Ref.{Bor}
use Rattle.std.specs.Int.{Width, w32, w64, byte_len, from_be_bytes, cast_signed}
use Rattle.std.specs.Str.{is_utf8}
use Rattle.hippo_values.specs.declared.names.Name.{Name}
use Rattle.hippo_values.specs.Texts.{Txt}
use Rattle.hippo_values.specs.Names.{name_of}
use Rattle.hippo_values.specs.Moments.{is_day, is_moment}
use Rattle.hippo_values.specs.declared.values.Value.{Value}
use Rattle.hippo_values.specs.declared.values.Value.TheVariants.{Null, Int, Text, Day}
use Rattle.hippo_values.specs.Options.{◌>>=◌}
use Rattle.hippo_model.specs.declared.schema.Column.{Column}
use Rattle.hippo_model.specs.declared.schema.ColumnKind.{ColumnKind}
use Rattle.hippo_model.specs.declared.schema.ColumnKind.TheVariants.{Integer, Text as TextColumn, Date}
use Rattle.hippo_model.specs.declared.schema.Schema.{Schema}
use Rattle.hippo_model.specs.declared.entry.Act.{Act}
use Rattle.hippo_model.specs.declared.entry.Act.TheVariants.{Create, Insert, Update, Delete, Purpose, Recipient, Item}
use Rattle.hippo_model.specs.declared.entry.Act.TheVariants.{Authorize, Deauthorize, Allow, Revoke, Choice, Asked}
use Rattle.hippo_model.specs.declared.entry.Entry.{Entry}
use Rattle.hippo_model.specs.declared.entry.ItemKind.{ItemKind}
use Rattle.hippo_model.specs.declared.entry.ItemKind.TheVariants.{OptIn, OptOut}
use Rattle.hippo_model.specs.Terms.{Row, Place}
use Rattle.hippo_entry_codec.specs.declared.fault.Fault.{Fault}
use Rattle.hippo_entry_codec.specs.declared.fault.Fault.TheVariants as fault

-- reads the part at the front; gives it and the bytes after it
abbrev pub Reading : Type 0 → Type 0
Reading A = List ℕ → Option (A × List ℕ)

abbrev pub FailsReading : {Y : Type 0} → Fault → Option Y → Type 0
FailsReading fault.NoPart found = found ≡ None
FailsReading fault.Memory found = Unit {0}

-- the result of a call, seen through `view`, is what was found, unless memory ran out
abbrev pub GivesReading : {X Y : Type 0} → (X → Y) → Result X Fault → Option Y → Type 0
GivesReading view (Ok x) found = found ≡ Some (view x)
GivesReading view (Err e) found = FailsReading e found

-- a call reads the part at the front, and returns it with the bytes after it
abbrev pub ReadsFront : {X : Type 0} → Reading X → List ℕ → Result (X × Bor (List ℕ)) Fault → Type 0
ReadsFront reading bytes result = GivesReading (λ x. (x.0, x.1.now)) result (reading bytes)

-- ---- bytes, numbers and texts

abbrev pub leading_byte : Reading ℕ
leading_byte [] = None
leading_byte (byte ∷ rest) = Some (byte, rest)

-- the first `count` bytes
abbrev pub leading_bytes : ℕ → Reading (List ℕ)
leading_bytes count bytes =
    if nat_lt (length bytes) count then None else Some (take count bytes, drop count bytes)

abbrev pub leading_stored_number : Width → Reading ℕ
leading_stored_number w bytes =
    leading_bytes (byte_len w) bytes >>= λ n. Some (from_be_bytes w n.0, n.1)

abbrev pub leading_signed : Width → Reading ℤ
leading_signed w bytes = leading_stored_number w bytes >>= λ n. Some (cast_signed w n.0, n.1)

abbrev pub stored_text : List ℕ → Option Txt
stored_text bytes = if is_utf8 bytes then Some bytes else None

unfoldable pub leading_text : Reading Txt
leading_text bytes = do
  count ← leading_stored_number w32 bytes
  inside ← leading_bytes count.0 count.1
  text ← stored_text inside.0
  Some (text, inside.1)

unfoldable pub leading_stored_name : Reading Name
leading_stored_name bytes = do
  count ← leading_byte bytes
  inside ← leading_bytes count.0 count.1
  text ← stored_text inside.0
  name ← name_of text
  Some (name, inside.1)

-- ---- lists

-- this many parts
abbrev pub leading_parts : {A : Type 0} → Reading A → ℕ → Reading (List A)
leading_parts reading zero bytes = Some ([], bytes)
leading_parts reading (suc n) bytes = do
  first ← reading bytes
  others ← leading_parts reading n first.1
  Some (first.0 ∷ others.0, others.1)

-- as many parts as the first byte says
unfoldable pub leading_list : {A : Type 0} → Reading A → Reading (List A)
leading_list reading bytes = leading_byte bytes >>= λ count. leading_parts reading count.0 count.1

-- ---- values, columns and schemas

abbrev pub leading_int : Reading Value
leading_int bytes = leading_signed w64 bytes >>= λ number. Some (Int number.0, number.1)

abbrev pub leading_text_value : Reading Value
leading_text_value bytes = leading_text bytes >>= λ text. Some (Text text.0, text.1)

abbrev pub stored_day : ℤ → Option ℤ
stored_day day = if is_day day then Some day else None

abbrev pub leading_day : Reading Value
leading_day bytes = do
  number ← leading_signed w32 bytes
  day ← stored_day number.0
  Some (Day day, number.1)

abbrev pub value_of_kind : ℕ → Reading Value
value_of_kind kind bytes =
    if kind == 0 then Some (Null, bytes)
    else if kind == 1 then leading_int bytes
    else if kind == 2 then leading_text_value bytes
    else if kind == 3 then leading_day bytes
    else None

unfoldable pub leading_value : Reading Value
leading_value bytes = leading_byte bytes >>= λ kind. value_of_kind kind.0 kind.1

abbrev pub stored_column_kind : ℕ → Option ColumnKind
stored_column_kind byte =
    if byte == 1 then Some Integer else if byte == 2 then Some TextColumn else if byte == 3
    then Some Date else None

abbrev pub bool_of : ℕ → Option Bool
bool_of byte = if byte == 0 then Some false else if byte == 1 then Some true else None

abbrev pub item_kind_of : ℕ → Option ItemKind
item_kind_of byte = if byte == 1 then Some OptIn else if byte == 2 then Some OptOut else None

abbrev pub subject_of_byte : ℕ → Option Place
subject_of_byte byte = if byte == 0 then None else Some (byte - 1)

unfoldable pub leading_stored_column : Reading Column
leading_stored_column bytes = do
  name ← leading_stored_name bytes
  kind_byte ← leading_byte name.1
  kind ← stored_column_kind kind_byte.0
  null_byte ← leading_byte kind_byte.1
  not_null ← bool_of null_byte.0
  Some (record { name = name.0; kind = kind; not_null = not_null }, null_byte.1)

unfoldable pub leading_schema : Reading Schema
leading_schema bytes = do
  (name, after_name) ← leading_stored_name bytes
  (columns, after_columns) ← leading_list leading_stored_column after_name
  (key, after_key) ← leading_list leading_byte after_columns
  (byte, rest) ← leading_byte after_key
  Some (record { name = name; columns = columns; key = key; subject = subject_of_byte byte }, rest)

-- ---- acts

unfoldable pub leading_create : Reading Act
leading_create bytes = leading_schema bytes >>= λ schema. Some (Create schema.0, schema.1)

-- the change of a row for a kind from 2 to 4
abbrev pub change_of : ℕ → Name → Row → Act
change_of kind table row =
    if kind == 2 then Insert table row else if kind == 3 then Update table row else Delete table row

unfoldable pub leading_change : ℕ → Reading Act
leading_change kind bytes = do
  table ← leading_stored_name bytes
  row ← leading_list leading_value table.1
  Some (change_of kind table.0 row.0, row.1)

-- a new purpose or recipient, of kind 5 or 6
unfoldable pub leading_new_name : ℕ → Reading Act
leading_new_name kind bytes =
    leading_stored_name bytes >>= λ name. Some
    (if kind == 5 then Purpose name.0 else Recipient name.0, name.1)

unfoldable pub leading_new_item : Reading Act
leading_new_item bytes = do
  item ← leading_stored_name bytes
  byte ← leading_byte item.1
  kind ← item_kind_of byte.0
  Some (Item item.0 kind, byte.1)

-- an act of kind 8 or 9
abbrev pub grant_of : ℕ → Name → Name → Name → Act
grant_of kind user purpose recipient =
    if kind == 8 then Authorize user purpose recipient else Deauthorize user purpose recipient

unfoldable pub leading_stored_grant : ℕ → Reading Act
leading_stored_grant kind bytes = do
  user ← leading_stored_name bytes
  purpose ← leading_stored_name user.1
  recipient ← leading_stored_name purpose.1
  Some (grant_of kind user.0 purpose.0 recipient.0, recipient.1)

abbrev pub item_of_byte : ℕ → Reading (Option Name)
item_of_byte byte bytes =
    if byte == 0 then Some (None, bytes)
    else if byte == 1 then (leading_stored_name bytes >>= λ item. Some (Some item.0, item.1))
    else None

unfoldable pub leading_stored_item : Reading (Option Name)
leading_stored_item bytes = leading_byte bytes >>= λ byte. item_of_byte byte.0 byte.1

-- an act has days only in format 2
unfoldable pub leading_days : ℕ → Reading (Option ℕ)
leading_days format bytes =
    if format == 2 then (leading_stored_number w32 bytes >>= λ days. Some (Some days.0, days.1))
    else Some (None, bytes)

-- the purpose, the recipient, the table and the columns of a rule
unfoldable pub leading_stored_rule : Reading (Name × Name × Name × List Place)
leading_stored_rule bytes = do
  purpose ← leading_stored_name bytes
  recipient ← leading_stored_name purpose.1
  table ← leading_stored_name recipient.1
  columns ← leading_list leading_byte table.1
  Some ((purpose.0, recipient.0, table.0, columns.0), columns.1)

unfoldable pub leading_allow : ℕ → Reading Act
leading_allow format bytes = do
  ((purpose, recipient, table, columns), remaining) ← leading_stored_rule bytes
  item ← leading_stored_item remaining
  days ← leading_days format item.1
  Some (Allow purpose recipient table columns item.0 days.0, days.1)

unfoldable pub leading_revoke : Reading Act
leading_revoke bytes = do
  ((purpose, recipient, table, columns), remaining) ← leading_stored_rule bytes
  Some (Revoke purpose recipient table columns, remaining)

unfoldable pub leading_choice : Reading Act
leading_choice bytes = do
  subject ← leading_signed w64 bytes
  item ← leading_stored_name subject.1
  byte ← leading_byte item.1
  agreed ← bool_of byte.0
  Some (Choice subject.0 item.0 agreed, byte.1)

unfoldable pub leading_question : Reading Act
leading_question bytes = do
  user ← leading_stored_name bytes
  purpose ← leading_stored_name user.1
  recipient ← leading_stored_name purpose.1
  text ← leading_text recipient.1
  Some (Asked user.0 purpose.0 recipient.0 text.0, text.1)

abbrev pub act_of_kind : ℕ → ℕ → Reading Act
act_of_kind format kind bytes =
    if kind == 1 then leading_create bytes
    else if kind == 2 || kind == 3 || kind == 4 then leading_change kind bytes
    else if kind == 5 || kind == 6 then leading_new_name kind bytes
    else if kind == 7 then leading_new_item bytes
    else if kind == 8 || kind == 9 then leading_stored_grant kind bytes
    else if kind == 10 then leading_allow format bytes
    else if kind == 11 then leading_revoke bytes
    else if kind == 12 then leading_choice bytes
    else if kind == 13 then leading_question bytes
    else None

abbrev pub moment_of : ℤ → Option ℤ
moment_of seconds = if is_moment seconds then Some seconds else None

-- the entry at the front
unfoldable pub leading_entry : Reading Entry
leading_entry bytes = do
  format ← leading_byte bytes
  number ← leading_stored_number w64 format.1
  seconds ← leading_signed w64 number.1
  moment ← moment_of seconds.0
  kind ← leading_byte seconds.1
  act ← act_of_kind format.0 kind.0 kind.1
  Some (record { seq = number.0; moment = moment; act = act.0 }, act.1)
