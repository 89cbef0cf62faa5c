-- Changes with several faults at once, and what some changes ask for.
use Rattle.std.proofs.Common.{◌≡◌, ℕ, pos, true, false, List, [], ◌∷◌, Option, Some, None, refl, codes, replicate}
use Rattle.std.specs.Prelude.{slice_get}
use Rattle.hippo_values.specs.declared.names.Name.{Name}
use Rattle.hippo_values.specs.declared.values.Value.{Value}
use Rattle.hippo_values.specs.declared.values.Value.TheVariants.{Null, Int, Text}
use Rattle.hippo_model.specs.declared.entry.Act.TheVariants as acts
use Rattle.hippo_model.specs.declared.entry.ItemKind.TheVariants.{OptIn}
use Rattle.hippo_model.specs.declared.name_fault.NameFault.{NameFault}
use Rattle.hippo_model.specs.declared.name_fault.NameFault.TheVariants.{UnknownTable, UnknownColumn, UnknownPurpose, UnknownRecipient, UnknownItem, AlreadyThere, RepeatedName, TypeMismatch, NullNotAllowed, WrongCount, KeyChanged, NoSubject, BadText, NotTheKey, TooManyParts}
use Rattle.hippo_model.specs.declared.schema.Column.{Column}
use Rattle.hippo_model.specs.declared.schema.ColumnKind.{ColumnKind}
use Rattle.hippo_model.specs.declared.schema.ColumnKind.TheVariants.{Integer, Text as TextColumn}
use Rattle.hippo_model.specs.declared.schema.Schema.{Schema}
use Rattle.hippo_stmt_ast.specs.declared.statement.Stmt.{Stmt}
use Rattle.hippo_stmt_ast.specs.declared.statement.Stmt.TheVariants.{CreateTable, CreatePurpose, Allow, Revoke, Choice, Insert, Update, Delete, Explain}
use Rattle.hippo_model.specs.declared.wanted.Wanted.TheVariants.{Ready, Add, Set}
use Rattle.hippo_typing_catalog.specs.Catalogs.{KnownNames}
use Rattle.hippo_typing_catalog.specs.ChangesRefused.{change_refused}
use Rattle.hippo_typing_catalog.specs.ChangesWanted.{wanted_by}

abbrev column : List ℕ → ColumnKind → Column
column name kind = record { name = name; kind = kind; not_null = false }

abbrev required : List ℕ → ColumnKind → Column
required name kind = record { name = name; kind = kind; not_null = true }

abbrev pid : List ℕ
pid = codes "pid"

abbrev name : List ℕ
name = codes "name"

abbrev zip : List ℕ
zip = codes "zip"

abbrev patient : List ℕ
patient = codes "patient"

abbrev patients : Schema
patients = record {
  name = patient;
  columns = required pid Integer ∷ required name TextColumn ∷ column zip Integer ∷ [];
  key = 0 ∷ [];
  subject = Some 0;
}

-- its key is room, then site; it has no SUBJECT
abbrev wards : Schema
wards = record {
  name = codes "ward";
  columns = required (codes "site") TextColumn ∷ required (codes "room") Integer ∷ column (codes "beds") Integer ∷ [];
  key = 1 ∷ 0 ∷ [];
  subject = None;
}

abbrev clinic : KnownNames
clinic = record {
  tables = (patients.name, patients) ∷ (wards.name, wards) ∷ [];
  purposes = codes "treatment" ∷ [];
  recipients = codes "nurse" ∷ [];
  items = (codes "calls", OptIn) ∷ [];
}

abbrev full : KnownNames
full = record clinic { tables = replicate 64 (patients.name, patients) }

abbrev answer : Stmt → Option NameFault
answer statement = slice_get (change_refused clinic statement) 0

abbrev allow : List ℕ → List ℕ → List ℕ → List (List ℕ) → Option Name → Stmt
allow purpose recipient table columns item = Allow purpose recipient table columns item None

-- an unknown table is reported before an unknown purpose, though the purpose comes first in the
-- text
table_before_purpose : answer (allow (codes "billing") (codes "nurse") (codes "nobody") (name ∷ []) None) ≡ Some (UnknownTable (codes "nobody"))
table_before_purpose = refl

-- purpose, recipient and item are reported in the order of the text
purpose_before_recipient : answer (allow (codes "billing") (codes "clerk") patient (name ∷ []) None) ≡ Some (UnknownPurpose (codes "billing"))
purpose_before_recipient = refl

recipient_before_item : answer (allow (codes "treatment") (codes "clerk") patient (name ∷ []) (Some (codes "mail"))) ≡ Some (UnknownRecipient (codes "clerk"))
recipient_before_item = refl

-- unknown names are reported before repeated names
item_before_repeated_name : answer (allow (codes "treatment") (codes "nurse") patient (codes "x" ∷ codes "x" ∷ []) (Some (codes "mail"))) ≡ Some (UnknownItem (codes "mail"))
item_before_repeated_name = refl

repeated_name_before_unknown_column : answer (allow (codes "treatment") (codes "nurse") patient (codes "x" ∷ codes "x" ∷ []) None) ≡ Some (RepeatedName (codes "x"))
repeated_name_before_unknown_column = refl

-- the name whose repetition comes first is reported
first_repetition : answer (Revoke (codes "treatment") (codes "nurse") patient (pid ∷ name ∷ name ∷ pid ∷ [])) ≡ Some (RepeatedName name)
first_repetition = refl

unknown_column_before_missing_subject : answer (allow (codes "treatment") (codes "nurse") (codes "ward") (codes "x" ∷ []) (Some (codes "calls"))) ≡ Some (UnknownColumn (codes "x"))
unknown_column_before_missing_subject = refl

missing_subject : answer (allow (codes "treatment") (codes "nurse") (codes "ward") (codes "site" ∷ []) (Some (codes "calls"))) ≡ Some (NoSubject (codes "ward"))
missing_subject = refl

rule : wanted_by clinic (allow (codes "treatment") (codes "nurse") patient (zip ∷ pid ∷ []) (Some (codes "calls"))) ≡ Some (Ready (acts.Allow (codes "treatment") (codes "nurse") patient (2 ∷ 0 ∷ []) (Some (codes "calls")) None))
rule = refl

abbrev create : List ℕ → List Column → List (List ℕ) → Option (List ℕ) → Stmt
create table columns key subject = CreateTable table columns key subject

-- a repeated column is reported before a repeated name in the key
repeated_column : answer (create patient (column pid TextColumn ∷ column pid TextColumn ∷ []) (name ∷ name ∷ []) (Some zip)) ≡ Some (RepeatedName pid)
repeated_column = refl

repeated_key : answer (create patient (column pid TextColumn ∷ []) (name ∷ name ∷ []) (Some zip)) ≡ Some (RepeatedName name)
repeated_key = refl

key_before_subject : answer (create patient (column pid TextColumn ∷ []) (name ∷ []) (Some zip)) ≡ Some (UnknownColumn name)
key_before_subject = refl

unknown_subject : answer (create patient (column pid TextColumn ∷ []) (pid ∷ []) (Some zip)) ≡ Some (UnknownColumn zip)
unknown_subject = refl

-- the kind of the SUBJECT is reported before the table's name
subject_before_taken_name : answer (create patient (column pid TextColumn ∷ []) (pid ∷ []) (Some pid)) ≡ Some TypeMismatch
subject_before_taken_name = refl

taken_table : answer (create patient (column pid TextColumn ∷ []) (pid ∷ []) None) ≡ Some (AlreadyThere patient)
taken_table = refl

-- the number of tables is reported before the table's name
tables_before_taken_name : slice_get (change_refused full (create patient (column pid TextColumn ∷ []) (pid ∷ []) None)) 0 ≡ Some (TooManyParts 64)
tables_before_taken_name = refl

-- key and subject are NOT NULL though that is not written, and the key keeps the order of its list
table : wanted_by clinic (create (codes "visit") (column name TextColumn ∷ column pid Integer ∷ column zip Integer ∷ []) (zip ∷ name ∷ []) (Some pid)) ≡ Some (Ready (acts.Create (record { name = codes "visit"; columns = required name TextColumn ∷ required pid Integer ∷ required zip Integer ∷ []; key = 2 ∷ 0 ∷ []; subject = Some 1 })))
table = refl

count_before_kinds : answer (Insert patient (Text name ∷ [])) ≡ Some (WrongCount 3)
count_before_kinds = refl

-- a wrong kind is reported before NULL, though the NULL comes first
kind_before_null : answer (Insert patient (Null ∷ Null ∷ Text name ∷ [])) ≡ Some TypeMismatch
kind_before_null = refl

first_null : answer (Insert patient (Int (pos 1) ∷ Null ∷ Null ∷ [])) ≡ Some (NullNotAllowed name)
first_null = refl

-- NULL is reported before a text with a control character
null_before_text : answer (Insert patient (Null ∷ Text (7 ∷ []) ∷ Null ∷ [])) ≡ Some (NullNotAllowed pid)
null_before_text = refl

text : answer (Insert patient (Int (pos 1) ∷ Text (7 ∷ []) ∷ Null ∷ [])) ≡ Some BadText
text = refl

row : wanted_by clinic (Insert (codes "ward") (Text (codes "b") ∷ Int (pos 1) ∷ Null ∷ [])) ≡ Some (Add (codes "ward") (Text (codes "b") ∷ Int (pos 1) ∷ Null ∷ []) (Int (pos 1) ∷ Text (codes "b") ∷ []))
row = refl

abbrev update : List (List ℕ) → List Value → List (List ℕ) → List Value → Stmt
update columns values keys key_values = Update patient columns values keys key_values

repeated_column_before_repeated_key : answer (update (zip ∷ zip ∷ []) (Null ∷ Null ∷ []) (pid ∷ pid ∷ []) (Null ∷ Null ∷ [])) ≡ Some (RepeatedName zip)
repeated_column_before_repeated_key = refl

repeated_key_before_unknown_column : answer (update (codes "x" ∷ []) (Null ∷ []) (pid ∷ pid ∷ []) (Null ∷ Null ∷ [])) ≡ Some (RepeatedName pid)
repeated_key_before_unknown_column = refl

-- the same column may be set and be in WHERE
set_and_key_differ : answer (update (pid ∷ []) (Int (pos 3) ∷ []) (pid ∷ []) (Int (pos 1) ∷ [])) ≡ Some (KeyChanged pid)
set_and_key_differ = refl

unknown_set_column_first : answer (update (codes "x" ∷ []) (Null ∷ []) (codes "y" ∷ []) (Null ∷ [])) ≡ Some (UnknownColumn (codes "x"))
unknown_set_column_first = refl

unknown_column_before_wrong_key : answer (update (codes "x" ∷ []) (Null ∷ []) (zip ∷ []) (Null ∷ [])) ≡ Some (UnknownColumn (codes "x"))
unknown_column_before_wrong_key = refl

-- columns of WHERE that are not the key are reported before a key column that is set
wrong_key_before_changed_key : answer (update (pid ∷ []) (Int (pos 3) ∷ []) (zip ∷ []) (Int (pos 1) ∷ [])) ≡ Some NotTheKey
wrong_key_before_changed_key = refl

changed_key_before_kind : answer (update (zip ∷ pid ∷ []) (Text name ∷ Int (pos 3) ∷ []) (pid ∷ []) (Int (pos 1) ∷ [])) ≡ Some (KeyChanged pid)
changed_key_before_kind = refl

-- a wrong kind anywhere in the statement is reported before any NULL
kind_of_key_before_null : answer (update (name ∷ []) (Null ∷ []) (pid ∷ []) (Text name ∷ [])) ≡ Some TypeMismatch
kind_of_key_before_null = refl

null_of_set_before_null_of_key : answer (update (name ∷ []) (Null ∷ []) (pid ∷ []) (Null ∷ [])) ≡ Some (NullNotAllowed name)
null_of_set_before_null_of_key = refl

null_of_key_before_text : answer (update (name ∷ []) (Text (7 ∷ []) ∷ []) (pid ∷ []) (Null ∷ [])) ≡ Some (NullNotAllowed pid)
null_of_key_before_text = refl

text_that_is_set : answer (update (name ∷ []) (Text (7 ∷ []) ∷ []) (pid ∷ []) (Int (pos 1) ∷ [])) ≡ Some BadText
text_that_is_set = refl

-- the key has its own order, and the set columns the order of the text
change : wanted_by clinic (Update (codes "ward") (codes "beds" ∷ []) (Int (pos 2) ∷ []) (codes "site" ∷ codes "room" ∷ []) (Text (codes "b") ∷ Int (pos 1) ∷ [])) ≡ Some (Set (codes "ward") (Int (pos 1) ∷ Text (codes "b") ∷ []) (2 ∷ []) (Int (pos 2) ∷ []))
change = refl

-- a part of the key is not the key
part_of_the_key : answer (Delete (codes "ward") (codes "room" ∷ []) (Int (pos 1) ∷ [])) ≡ Some NotTheKey
part_of_the_key = refl

delete_by_the_key : change_refused clinic (Delete (codes "ward") (codes "site" ∷ codes "room" ∷ []) (Text (codes "b") ∷ Int (pos 1) ∷ [])) ≡ []
delete_by_the_key = refl

unknown_table : answer (Delete (codes "nobody") (name ∷ name ∷ []) (Null ∷ Null ∷ [])) ≡ Some (UnknownTable (codes "nobody"))
unknown_table = refl

taken_purpose : answer (CreatePurpose (codes "treatment")) ≡ Some (AlreadyThere (codes "treatment"))
taken_purpose = refl

-- a purpose may have the name of a table
purpose_named_as_a_table : change_refused clinic (CreatePurpose patient) ≡ []
purpose_named_as_a_table = refl

unknown_item : answer (Choice (pos 1) (codes "mail") true) ≡ Some (UnknownItem (codes "mail"))
unknown_item = refl

explaining_changes_nothing : wanted_by clinic (Explain (pos 1)) ≡ None
explaining_changes_nothing = refl
