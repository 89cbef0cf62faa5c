-- A working day with two tables: joins, audits by two tables, and the denials of a query.
use Rattle.hippo_model.specs.declared.query.Form.TheVariants.{Plain}
use Rattle.std.proofs.Common.{◌≡◌, ℕ, pos, List, [], ◌∷◌, ◌++◌, Some, None, true, false, refl, codes, if◌then◌else◌}
use Rattle.std.specs.Prelude.{bytes_eq}
use Rattle.hippo_values.specs.declared.values.Value.TheVariants.{Null, Int, Text, Day}
use Rattle.hippo_values.specs.declared.truths.CompareOp.TheVariants.{Eq}
use Rattle.hippo_model.specs.declared.audit.Audit.{Audit}
use Rattle.hippo_model.specs.declared.cells.Cell.TheVariants.{Shown, Denied}
use Rattle.hippo_model.specs.declared.schema.ColumnKind.TheVariants.{Date}
use Rattle.hippo_model.specs.declared.schema.Schema.{Schema}
use Rattle.hippo_model.specs.declared.entry.Act.{Act}
use Rattle.hippo_model.specs.declared.entry.Act.TheVariants.{Create, Purpose, Recipient, Item, Authorize, Allow, Insert, Update, Choice, Asked}
use Rattle.hippo_model.specs.declared.entry.Entry.{Entry}
use Rattle.hippo_model.specs.declared.entry.ItemKind.TheVariants.{OptOut}
use Rattle.hippo_model.specs.declared.query.CondOf.{CondOf}
use Rattle.hippo_model.specs.declared.query.CondOf.TheVariants.{All, Compare}
use Rattle.hippo_model.specs.declared.query.Operand.{Operand}
use Rattle.hippo_model.specs.declared.query.Operand.TheVariants.{Column as ColumnOperand, Literal}
use Rattle.hippo_model.specs.declared.query.Query.{Query}
use Rattle.hippo_model.specs.Terms.{History, Meaning}
use Rattle.hippo_model.specs.Verdicts.{Context}
use Rattle.hippo_model.specs.Answers.{answer}
use Rattle.hippo_model.specs.Audits.{shared_tuple}
use Rattle.hippo_model.specs.Denials.{denials}
use Rattle.hippo_model.specs.Hits.{hits}
use Rattle.hippo_model.specs.Validity.{damage}
use Rattle.hippo_model.proofs.NamedColumns.{named_columns}
use Rattle.hippo_model.proofs.Truths.{truths}
use Rattle.hippo_model.proofs.OuterParts.{outer_parts_of}
use Rattle.hippo_model_laws.proofs.ExampleHistories.{treatment, nurse, ann, billing, clerk, keyed, patient, patients, number_column, text_column, required, column, column_of, nursing, select, always, words_and_texts, audit_between}

abbrev carl : List ℕ
carl = codes "carl"

abbrev visit : List ℕ
visit = codes "visit"

abbrev visits : Schema
visits =
    keyed visit (required (number_column (codes "vno")) ∷ required (number_column (codes "pid")) ∷ text_column (codes "ward") ∷ record { name = codes "seen"; kind = Date; not_null = false } ∷ []) 1

-- 2024-03-04T07:00:00Z and 09:30:00Z
abbrev early : ℕ → Act → Entry
early number act = record { seq = number; moment = pos 1709535600; act = act }

abbrev later : ℕ → Act → Entry
later number act = record { seq = number; moment = pos 1709544600; act = act }

abbrev morning : History
morning =
    early 1 (Create patients) ∷ early 2 (Create visits) ∷ early 3 (Purpose treatment) ∷ early 4 (Purpose billing)
    ∷ early 5 (Recipient nurse) ∷ early 6 (Recipient clerk) ∷ early 7 (Item (codes "contact") OptOut)
    ∷ early 8 (Authorize ann treatment nurse) ∷ early 9 (Authorize carl billing clerk)
    ∷ early 10 (Allow treatment nurse patient (0 ∷ 1 ∷ 3 ∷ []) None None) ∷ early 11 (Allow treatment nurse patient (2 ∷ []) (Some (codes "contact")) None)
    ∷ early 12 (Allow treatment nurse visit (0 ∷ 1 ∷ 2 ∷ 3 ∷ []) None None) ∷ early 13 (Allow billing clerk patient (0 ∷ 3 ∷ []) None None)
    ∷ early 14 (Insert patient (Int (pos 1) ∷ Text (codes "Ada") ∷ Text (codes "555-1") ∷ Int (pos 95120) ∷ []))
    ∷ early 15 (Insert patient (Int (pos 2) ∷ Text (codes "Bob") ∷ Text (codes "555-2") ∷ Int (pos 90210) ∷ []))
    ∷ early 16 (Insert visit (Int (pos 10) ∷ Int (pos 1) ∷ Text (codes "north") ∷ Day (pos 19783) ∷ []))
    ∷ early 17 (Insert visit (Int (pos 11) ∷ Int (pos 2) ∷ Text (codes "south") ∷ Day (pos 19784) ∷ []))
    ∷ early 18 (Insert visit (Int (pos 12) ∷ Int (pos 1) ∷ Text (codes "south") ∷ Null ∷ []))
    ∷ early 19 (Choice (pos 2) (codes "contact") false) ∷ []

-- the patients seen in the south ward
abbrev in_south : CondOf Operand
in_south = All (Compare Eq (ColumnOperand (column_of 0 0)) (ColumnOperand (column_of 1 1)) ∷ Compare Eq (ColumnOperand (column_of 1 2)) (Literal (Text (codes "south"))) ∷ [])

abbrev south : Query
south = record { items = column_of 0 1 ∷ column_of 0 2 ∷ column_of 1 2 ∷ column_of 1 3 ∷ []; tables = patient ∷ visit ∷ []; cond = in_south; form = Plain }

abbrev names_and_zips : Query
names_and_zips = select (column 1 ∷ column 3 ∷ []) always

abbrev wards : Query
wards = record { items = column 2 ∷ []; tables = visit ∷ []; cond = always; form = Plain }

abbrev meaning : Meaning
meaning history text = if bytes_eq text (codes "south") then Some south else (if bytes_eq text (codes "names") then Some names_and_zips else Some wards)

abbrev ann_asks : Entry
ann_asks = later 20 (Asked ann treatment nurse (codes "south"))

abbrev carl_asks : Entry
carl_asks = later 21 (Asked carl billing clerk (codes "names"))

abbrev carl_asks_again : Entry
carl_asks_again = later 23 (Asked carl billing clerk (codes "wards"))

abbrev day : History
day = morning ++ ann_asks ∷ carl_asks ∷ later 22 (Update patient (Int (pos 2) ∷ Text (codes "Bob") ∷ Text (codes "555-9") ∷ Int (pos 90210) ∷ [])) ∷ carl_asks_again ∷ []

the_day_is_not_damaged : damage meaning day ≡ None
unfolding words_and_texts
the_day_is_not_damaged = refl

-- a clerk's query at 09:30:00
abbrev billed : Context
billed = record { purpose = billing; recipient = clerk; moment = pos 1709544600 }

two_tables_join_in_key_order : answer morning (nursing (pos 1709544600)) south
    ≡ (Shown (Text (codes "Ada")) ∷ Shown (Text (codes "555-1")) ∷ Shown (Text (codes "south")) ∷ Shown Null ∷ [])
    ∷ (Shown (Text (codes "Bob")) ∷ Denied 11 ∷ Shown (Text (codes "south")) ∷ Shown (Day (pos 19784)) ∷ []) ∷ []
two_tables_join_in_key_order = simp truths

each_pair_has_its_own_rules : answer morning billed names_and_zips
    ≡ (Denied 0 ∷ Shown (Int (pos 95120)) ∷ []) ∷ (Denied 0 ∷ Shown (Int (pos 90210)) ∷ []) ∷ []
each_pair_has_its_own_rules = simp truths

table_without_rules_shows_no_row : answer day billed wards ≡ []
table_without_rules_shows_no_row = refl

-- who saw the name of a patient in the south ward on 2024-03-04
abbrev names_in_south : Audit
names_in_south = audit_between (pos 1709510400) (pos 1709596799) (column_of 0 1 ∷ []) (patient ∷ visit ∷ []) in_south

first_shared_tuple_of_two_tables : shared_tuple meaning day names_in_south ann_asks
    ≡ Some (record { table = patient; key = Int (pos 1) ∷ [] } ∷ record { table = visit; key = Int (pos 12) ∷ [] } ∷ [])
first_shared_tuple_of_two_tables = simp truths

shared_tuple_of_the_one_common_table : shared_tuple meaning day names_in_south carl_asks ≡ Some (record { table = patient; key = Int (pos 1) ∷ [] } ∷ [])
shared_tuple_of_the_one_common_table = simp truths

query_without_the_column_is_not_flagged : shared_tuple meaning day names_in_south carl_asks_again ≡ None
query_without_the_column_is_not_flagged = simp named_columns

denials_as_they_were : denials meaning day ann_asks ≡ record { table = patient; key = Int (pos 2) ∷ []; column = codes "phone"; rule = 11 } ∷ []
denials_as_they_were = simp named_columns

abbrev names_shown_in_south : Audit
names_shown_in_south = record names_in_south { shown = true }

shown_names_are_flagged : shared_tuple meaning day names_shown_in_south ann_asks
    ≡ Some (record { table = patient; key = Int (pos 1) ∷ [] } ∷ record { table = visit; key = Int (pos 12) ∷ [] } ∷ [])
shown_names_are_flagged = simp truths

denied_name_is_not_flagged_as_shown : shared_tuple meaning day names_shown_in_south carl_asks ≡ None
denied_name_is_not_flagged_as_shown = simp truths

-- who queried or saw the second patient's phone
abbrev phone_asked : Audit
phone_asked = record names_in_south { columns = column 2 ∷ []; tables = patient ∷ []; cond = Compare Eq (ColumnOperand (column 1)) (Literal (Text (codes "Bob"))) }

denied_phone_is_flagged_as_asked : shared_tuple meaning day phone_asked ann_asks ≡ Some (record { table = patient; key = Int (pos 2) ∷ [] } ∷ [])
denied_phone_is_flagged_as_asked = simp truths

denied_phone_is_not_flagged_as_shown : shared_tuple meaning day (record phone_asked { shown = true }) ann_asks ≡ None
denied_phone_is_not_flagged_as_shown = simp truths

each_tables_own_conditions_find_rows : (hits day names_in_south 0 ≡ 2) × (hits day names_in_south 1 ≡ 2)
each_tables_own_conditions_find_rows = (simp (named_columns, outer_parts_of), simp (truths, named_columns, outer_parts_of))
