-- The accesses of queries to a patient's rows, computed on a small history. Each example is named
-- for what it shows.
use Rattle.std.proofs.Common.{◌≡◌, ℕ, pos, List, [], ◌∷◌, ◌++◌, None, codes, refl}
use Rattle.hippo_values.specs.declared.values.Value.{Value}
use Rattle.hippo_values.specs.declared.values.Value.TheVariants.{Null, Int, Text}
use Rattle.hippo_model.specs.declared.entry.Act.TheVariants.{Create, Insert, Allow}
use Rattle.hippo_model.specs.declared.query.Form.TheVariants.{Plain, Distinct}
use Rattle.hippo_model.specs.declared.query.Query.{Query}
use Rattle.hippo_model.specs.Terms.{History}
use Rattle.hippo_model.proofs.Truths.{truths}
use Rattle.hippo_model_laws.proofs.ExampleHistories.{treatment, nurse, ann, morning, patient, patients, entry, ada, clinic, column, number_column, required, select, equals, always, born_in_the_morning}
use Rattle.hippo_history_formats.specs.declared.access.Access.{Access}
use Rattle.hippo_history_formats.specs.declared.access.SeenCell.{SeenCell}
use Rattle.hippo_history_uses.specs.Accesses.{Asker, access_to, query_accesses}

abbrev asker : Asker
asker = record { entry = 20; moment = morning; user = ann; purpose = treatment; recipient = nurse }

abbrev accesses : History → ℕ → Query → List Access
accesses history number query = query_accesses history asker (pos number) query

abbrev seen : List ℕ → Value → SeenCell
seen column value = record { column = column; value = value }

-- the name and the phone of the patient with the number 1; no rule allows phones
abbrev phone_of_one : Query
phone_of_one = select (column 1 ∷ column 2 ∷ []) (equals 0 (Int (pos 1)))

abbrev access_of_ada : Access
access_of_ada = access_to clinic asker phone_of_one patients (born_in_the_morning ada)

column_of_the_select_list_is_shown : access_of_ada.shown ≡ seen (codes "name") (Text (codes "Ada")) ∷ []
column_of_the_select_list_is_shown = refl

row_that_the_condition_leaves_out_is_not_used : accesses clinic 2 phone_of_one ≡ []
row_that_the_condition_leaves_out_is_not_used = simp truths

-- a third patient has the name of the first
abbrev two_adas : History
two_adas = clinic ++ entry 8 (Insert patient (Int (pos 3) ∷ Text (codes "Ada") ∷ Null ∷ Null ∷ [])) ∷ []

abbrev different_names : Query
different_names = record { items = column 1 ∷ []; tables = patient ∷ []; cond = always; form = Distinct }

row_that_another_equals_is_not_used : accesses two_adas 1 different_names ≡ []
row_that_another_equals_is_not_used = simp truths

-- a ward has a number and no SUBJECT
abbrev ward : List ℕ
ward = codes "ward"

abbrev with_wards : History
with_wards = clinic
    ++ entry 8 (Create (record { name = ward; columns = required (number_column (codes "wid")) ∷ []; key = 0 ∷ []; subject = None }))
    ∷ entry 9 (Allow treatment nurse ward (0 ∷ []) None None) ∷ entry 10 (Insert ward (Int (pos 1) ∷ [])) ∷ []

abbrev wards : Query
wards = record { items = column 0 ∷ []; tables = ward ∷ []; cond = always; form = Plain }

table_without_SUBJECT_has_no_rows_of_a_patient : accesses with_wards 1 wards ≡ []
table_without_SUBJECT_has_no_rows_of_a_patient = refl
