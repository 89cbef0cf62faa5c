-- Audits, computed on small histories. Each example is named for what it shows.
use Rattle.hippo_model.specs.declared.query.Form.TheVariants.{Plain}
use Rattle.std.proofs.Common.{◌≡◌, ℕ, ℤ, pos, negsuc, List, [], ◌∷◌, ◌++◌, Option, Some, None, false, refl, codes}
use Rattle.hippo_values.specs.declared.truths.CompareOp.TheVariants.{Gt}
use Rattle.hippo_values.specs.declared.values.Value.{Value}
use Rattle.hippo_values.specs.declared.values.Value.TheVariants.{Int, Text}
use Rattle.hippo_model.specs.declared.audit.Audit.{Audit}
use Rattle.hippo_model.specs.declared.audit.SharedRow.{SharedRow}
use Rattle.hippo_model.specs.declared.cells.Cell.TheVariants.{Shown}
use Rattle.hippo_model.specs.declared.entry.Act.TheVariants.{Create, Recipient, Item, Authorize, Allow, Revoke, Choice, Insert, Update, Delete, Asked}
use Rattle.hippo_model.specs.declared.entry.Entry.{Entry}
use Rattle.hippo_model.specs.declared.entry.ItemKind.TheVariants.{OptOut}
use Rattle.hippo_model.specs.declared.query.CondOf.{CondOf}
use Rattle.hippo_model.specs.declared.query.CondOf.TheVariants.{Compare}
use Rattle.hippo_model.specs.declared.query.Operand.{Operand}
use Rattle.hippo_model.specs.declared.query.Operand.TheVariants.{Column, Literal}
use Rattle.hippo_model.specs.declared.query.Query.{Query}
use Rattle.hippo_model.specs.declared.query.Ref.{Ref}
use Rattle.hippo_model.specs.declared.schema.Schema.{Schema}
use Rattle.hippo_model.specs.Terms.{History, Meaning}
use Rattle.hippo_model.specs.Audits.{shared_tuple}
use Rattle.hippo_model.specs.Hits.{hits}
use Rattle.hippo_model.proofs.NamedColumns.{named_columns}
use Rattle.hippo_model.proofs.Truths.{truths}
use Rattle.hippo_model.proofs.OuterParts.{outer_parts_of}
use Rattle.hippo_model_laws.proofs.ExampleHistories.{treatment, nurse, ann, clerk, patient, number_column, text_column, required, entry, clinic, column, equals, select, always, ask, asked, audit_between}

-- who saw a column of the patients on 2024-01-02
abbrev pub audit : List ℕ → List Ref → CondOf Operand → Audit
audit table columns condition = audit_between (pos 1704153600) (pos 1704239999) columns (table ∷ []) condition

-- every query text means this query
abbrev pub asks : Query → Meaning
asks query history text = Some query

abbrev flag_of : Query → History → Audit → ℕ → Option (List SharedRow)
flag_of query history expression number = shared_tuple (asks query) history expression (asked number)

abbrev pub row_of : List ℕ → List Value → Option (List SharedRow)
row_of table key = Some (record { table = table; key = key } ∷ [])

abbrev first_patient : Option (List SharedRow)
first_patient = row_of patient (Int (pos 1) ∷ [])

abbrev names : Query
names = select (column 1 ∷ []) always

abbrev names_seen : Audit
names_seen = audit patient (column 1 ∷ []) always

-- the names of the patients of one zip
abbrev names_by_zip : Query
names_by_zip = select (column 1 ∷ []) (equals 3 (Int (pos 95120)))

abbrev zips_asked : History
zips_asked = clinic ++ entry 8 (Allow treatment nurse patient (3 ∷ []) None None) ∷ asked 9 ∷ []

column_named_in_WHERE_alone_is_flagged : flag_of names_by_zip zips_asked (audit patient (column 3 ∷ []) (equals 1 (Text (codes "Ada")))) 9 ≡ first_patient
column_named_in_WHERE_alone_is_flagged = simp (truths, named_columns)

column_named_nowhere_is_not_flagged : flag_of names_by_zip zips_asked (audit patient (column 2 ∷ []) (equals 1 (Text (codes "Ada")))) 9 ≡ None
column_named_nowhere_is_not_flagged = simp named_columns

-- the first patient moves between two equal queries
abbrev moved : History
moved =
    clinic ++ asked 8 ∷ entry 9 (Update patient (Int (pos 1) ∷ Text (codes "Ada") ∷ Text (codes "555-1") ∷ Int (pos 90210) ∷ [])) ∷ asked 10 ∷ []

abbrev first_name : Query
first_name = select (column 1 ∷ []) (equals 0 (Int (pos 1)))

abbrev names_after_the_move : Audit
names_after_the_move = audit patient (column 1 ∷ []) (equals 3 (Int (pos 90210)))

rows_are_those_before_the_query : flag_of first_name moved names_after_the_move 8 ≡ None
rows_are_those_before_the_query = simp truths

rows_are_those_of_the_query : flag_of first_name moved names_after_the_move 10 ≡ first_patient
rows_are_those_of_the_query = simp truths

-- the second patient is deleted, and then the numbers are forbidden
abbrev gone : History
gone = clinic ++ asked 8 ∷ entry 9 (Delete patient (Int (pos 2) ∷ [])) ∷ asked 10 ∷ entry 11 (Revoke treatment nurse patient (0 ∷ [])) ∷ []

abbrev second_name : Query
second_name = select (column 1 ∷ []) (equals 0 (Int (pos 2)))

abbrev names_of_the_second : Audit
names_of_the_second = audit patient (column 1 ∷ []) (equals 0 (Int (pos 2)))

rules_are_those_of_the_query : flag_of second_name gone names_of_the_second 8 ≡ row_of patient (Int (pos 2) ∷ [])
rules_are_those_of_the_query = simp truths

deleted_row_is_not_shared : flag_of second_name gone names_of_the_second 10 ≡ None
deleted_row_is_not_shared = simp truths

-- a patient's number and name are shown unless the patient said NO; the second patient says NO
-- between two equal queries
abbrev refused : History
refused =
    clinic ++ entry 8 (Item (codes "contact") OptOut) ∷ entry 9 (Allow treatment nurse patient (0 ∷ 1 ∷ []) (Some (codes "contact")) None)
    ∷ asked 10 ∷ entry 11 (Choice (pos 2) (codes "contact") false) ∷ asked 12 ∷ []

choices_are_those_of_the_query : flag_of second_name refused names_of_the_second 10 ≡ row_of patient (Int (pos 2) ∷ [])
choices_are_those_of_the_query = simp truths

row_that_was_refused_is_not_shared : flag_of second_name refused names_of_the_second 12 ≡ None
row_that_was_refused_is_not_shared = simp truths

-- four queries, a second apart
abbrev asked_at : ℕ → ℤ → Entry
asked_at number moment = record { seq = number; moment = moment; act = Asked ann treatment nurse (codes "q") }

abbrev seconds : Audit
seconds = record names_seen { from = pos 1704182401; to = pos 1704182402 }

before_the_period : shared_tuple (asks names) clinic seconds (asked_at 8 (pos 1704182400)) ≡ None
before_the_period = refl

at_the_beginning_of_the_period : shared_tuple (asks names) clinic seconds (asked_at 9 (pos 1704182401)) ≡ first_patient
at_the_beginning_of_the_period = simp truths

at_the_end_of_the_period : shared_tuple (asks names) clinic seconds (asked_at 10 (pos 1704182402)) ≡ first_patient
at_the_end_of_the_period = simp truths

after_the_period : shared_tuple (asks names) clinic seconds (asked_at 11 (pos 1704182403)) ≡ None
after_the_period = refl

-- the same names are queried for two recipients, one of which is exempt
abbrev two_recipients : History
two_recipients = clinic ++ entry 8 (Recipient clerk) ∷ entry 9 (Authorize ann treatment clerk) ∷ entry 10 (Allow treatment clerk patient (0 ∷ 1 ∷ []) None None) ∷ []

abbrev but_for_nurses : Audit
but_for_nurses = record names_seen { exempt = record { purpose = treatment; recipient = nurse } ∷ [] }

exempt_pair_is_not_flagged : shared_tuple (asks names) two_recipients but_for_nurses (asked 11) ≡ None
exempt_pair_is_not_flagged = refl

other_pair_is_flagged : shared_tuple (asks names) two_recipients but_for_nurses (entry 12 (Asked ann treatment clerk (codes "q"))) ≡ first_patient
other_pair_is_flagged = simp truths

-- a table whose key has two columns
abbrev ward : List ℕ
ward = codes "ward"

abbrev wards : Schema
wards = record {
  name = ward;
  columns = required (text_column (codes "site")) ∷ required (number_column (codes "room")) ∷ [];
  key = 0 ∷ 1 ∷ [];
  subject = None;
}

abbrev rooms : History
rooms =
    clinic
    ++ entry 8 (Create wards) ∷ entry 9 (Allow treatment nurse ward (0 ∷ 1 ∷ []) None None) ∷ entry 10 (Insert ward (Text (codes "b") ∷ Int (pos 1) ∷ []))
    ∷ entry 11 (Insert ward (Text (codes "a") ∷ Int (pos 2) ∷ [])) ∷ entry 12 (Insert ward (Text (codes "a") ∷ Int (negsuc 0) ∷ [])) ∷ asked 13 ∷ []

abbrev all_of_ward : Query
all_of_ward = record { items = column 0 ∷ column 1 ∷ []; tables = ward ∷ []; cond = always; form = Plain }

keys_of_two_columns_in_key_order : ask rooms all_of_ward
    ≡ (Shown (Text (codes "a")) ∷ Shown (Int (negsuc 0)) ∷ []) ∷ (Shown (Text (codes "a")) ∷ Shown (Int (pos 2)) ∷ []) ∷ (Shown (Text (codes "b")) ∷ Shown (Int (pos 1)) ∷ []) ∷ []
keys_of_two_columns_in_key_order = simp truths

shared_key_of_two_columns : flag_of all_of_ward rooms (audit ward (column 1 ∷ []) (Compare Gt (Column (column 1)) (Literal (Int (pos 0))))) 13 ≡ row_of ward (Text (codes "a") ∷ Int (pos 2) ∷ [])
shared_key_of_two_columns = simp truths

-- how many patients match an audit's condition, before and after the first one moves
audit_finds_a_patient : hits clinic (audit patient (column 1 ∷ []) (equals 3 (Int (pos 95120)))) 0 ≡ 1
audit_finds_a_patient = simp (truths, named_columns, outer_parts_of)

audit_finds_no_patient_after_the_move : hits moved (audit patient (column 1 ∷ []) (equals 3 (Int (pos 95120)))) 0 ≡ 0
audit_finds_no_patient_after_the_move = simp (truths, named_columns, outer_parts_of)
