-- The statements that made some entries.
use Rattle.std.proofs.Common.{◌≡◌, pos, negsuc, true, false, [], ◌∷◌, ◌++◌, Some, None, refl, codes, decimal}
use Rattle.hippo_values_text.specs.Dates.{day_text, moment_text}
use Rattle.hippo_values.specs.Texts.{Txt}
use Rattle.hippo_values.specs.declared.moments.Moment.{Moment}
use Rattle.hippo_values.specs.declared.values.Value.TheVariants.{Null, Int, Text, Day}
use Rattle.hippo_model.specs.declared.entry.Act.{Act}
use Rattle.hippo_model.specs.declared.entry.Act.TheVariants.{Create, Insert, Update, Delete, Purpose, Recipient, Item, Authorize, Deauthorize, Allow, Revoke, Choice, Asked}
use Rattle.hippo_model.specs.declared.entry.ItemKind.TheVariants.{OptIn, OptOut}
use Rattle.hippo_model.specs.declared.schema.Column.{Column}
use Rattle.hippo_model.specs.declared.schema.ColumnKind.{ColumnKind}
use Rattle.hippo_model.specs.declared.schema.ColumnKind.TheVariants.{Integer, Text as TextColumn, Date}
use Rattle.hippo_model.specs.declared.schema.Schema.{Schema}
use Rattle.hippo_model.specs.Terms.{History}
use Rattle.hippo_history_statements.specs.Telling.{literal_text, act_statement, told_entry}

abbrev column : Txt → ColumnKind → Column
column name kind = record { name = name; kind = kind; not_null = false }

abbrev required : Txt → ColumnKind → Column
required name kind = record { name = name; kind = kind; not_null = true }

abbrev patient : Txt
patient = codes "patient"

abbrev patients : Schema
patients = record {
  name = patient;
  columns = required (codes "pid") Integer ∷ required (codes "name") TextColumn ∷ column (codes "phone") TextColumn
      ∷ column (codes "born") Date ∷ [];
  key = 0 ∷ [];
  subject = Some 0;
}

-- its key is room and then site; it has no SUBJECT
abbrev wards : Schema
wards = record {
  name = codes "ward";
  columns = required (codes "site") TextColumn ∷ required (codes "room") TextColumn ∷ column (codes "beds") Integer ∷ column (codes "head") TextColumn ∷ [];
  key = 1 ∷ 0 ∷ [];
  subject = None;
}

abbrev of_patients : Act → Txt
of_patients act = act_statement (Some patients) act

abbrev of_wards : Act → Txt
of_wards act = act_statement (Some wards) act

table_with_subject : act_statement None (Create patients)
    ≡ codes "CREATE TABLE patient (pid INTEGER NOT NULL, name TEXT NOT NULL, phone TEXT, born DATE, PRIMARY KEY (pid), SUBJECT pid)"
table_with_subject = refl

key_of_two_in_its_order : act_statement None (Create wards)
    ≡ codes "CREATE TABLE ward (site TEXT NOT NULL, room TEXT NOT NULL, beds INTEGER, head TEXT, PRIMARY KEY (room, site))"
key_of_two_in_its_order = refl

every_value_is_inserted : of_wards (Insert (codes "ward") (Text (codes "south") ∷ Text (codes "r12") ∷ Null ∷ Text (codes "Pat O'Hara") ∷ []))
    ≡ codes "INSERT INTO ward VALUES ('south', 'r12', NULL, 'Pat O''Hara')"
every_value_is_inserted = refl

-- a number as a literal; in a list, more text follows it
a_number : literal_text (Int (negsuc 6)) ≡ codes "-" ++ decimal 7
a_number = refl

every_other_column_is_set : of_wards (Update (codes "ward") (Text (codes "south") ∷ Text (codes "r12") ∷ Null ∷ Text [] ∷ []))
    ≡ codes "UPDATE ward SET beds = NULL, head = '' WHERE room = 'r12' AND site = 'south'"
every_other_column_is_set = refl

deleted_by_its_key : of_wards (Delete (codes "ward") (Text (codes "r12") ∷ Text (codes "south") ∷ []))
    ≡ codes "DELETE FROM ward WHERE room = 'r12' AND site = 'south'"
deleted_by_its_key = refl

purpose : act_statement None (Purpose (codes "treatment")) ≡ codes "CREATE PURPOSE treatment"
purpose = refl

recipient : act_statement None (Recipient (codes "nurse")) ≡ codes "CREATE RECIPIENT nurse"
recipient = refl

opt_in : act_statement None (Item (codes "contact") OptIn) ≡ codes "CREATE ITEM contact OPT IN"
opt_in = refl

opt_out : act_statement None (Item (codes "mail") OptOut) ≡ codes "CREATE ITEM mail OPT OUT"
opt_out = refl

authorized : act_statement None (Authorize (codes "dora") (codes "treatment") (codes "nurse"))
    ≡ codes "AUTHORIZE dora FOR treatment, nurse"
authorized = refl

no_longer_authorized : act_statement None (Deauthorize (codes "dora") (codes "treatment") (codes "nurse"))
    ≡ codes "DEAUTHORIZE dora FOR treatment, nurse"
no_longer_authorized = refl

columns_by_their_names : of_patients (Allow (codes "treatment") (codes "nurse") patient (0 ∷ 1 ∷ []) None None)
    ≡ codes "ALLOW treatment TO nurse ON patient (pid, name)"
columns_by_their_names = refl

with_item_and_days : of_patients (Allow (codes "treatment") (codes "nurse") patient (2 ∷ []) (Some (codes "contact")) (Some 30))
    ≡ codes "ALLOW treatment TO nurse ON patient (phone) WITH contact RETAIN " ++ (decimal 30 ++ codes " DAYS")
with_item_and_days = refl

revoked : of_patients (Revoke (codes "treatment") (codes "nurse") patient (2 ∷ 0 ∷ []))
    ≡ codes "REVOKE treatment TO nurse ON patient (phone, pid)"
revoked = refl

yes : act_statement None (Choice (pos 7) (codes "contact") true) ≡ codes "CHOICE " ++ (decimal 7 ++ codes " ON contact IS YES")
yes = refl

no_longer : act_statement None (Choice (negsuc 0) (codes "mail") false) ≡ codes "CHOICE -" ++ (decimal 1 ++ codes " ON mail IS NO")
no_longer = refl

-- a history in which the table comes before the rule
abbrev clinic : History
clinic = record { seq = 1; moment = pos 1709535600; act = Create patients }
    ∷ record { seq = 2; moment = pos 1709535600; act = Allow (codes "treatment") (codes "nurse") patient (2 ∷ []) (Some (codes "contact")) None }
    ∷ record { seq = 3; moment = pos 1709537400; act = Asked (codes "dora") (codes "treatment") (codes "nurse") (codes "SELECT name FROM patient") }
    ∷ []

-- 2024-03-04T07:00:00Z
abbrev morning : Moment
morning = pos 1709535600

a_rule_by_number_and_moment : told_entry clinic (record { seq = 2; moment = morning; act = Allow (codes "treatment") (codes "nurse") patient (2 ∷ []) (Some (codes "contact")) None })
    ≡ decimal 2 ++ (codes " " ++ (moment_text morning ++ codes " ALLOW treatment TO nurse ON patient (phone) WITH contact\n"))
a_rule_by_number_and_moment = refl

a_question_by_user_pair_and_text : told_entry clinic (record { seq = 3; moment = morning; act = Asked (codes "dora") (codes "treatment") (codes "nurse") (codes "SELECT name FROM patient") })
    ≡ decimal 3 ++ (codes " " ++ (moment_text morning ++ codes " dora treatment nurse SELECT name FROM patient\n"))
a_question_by_user_pair_and_text = refl

a_day_as_a_literal : literal_text (Day (pos 19786)) ≡ codes "DATE '" ++ (day_text (pos 19786) ++ codes "'")
a_day_as_a_literal = refl
