-- Distinct and grouped answers and their audits, computed on small histories. Each example is named
-- for what it shows.
use Rattle.std.proofs.Common.{◌≡◌, ℕ, pos, List, [], ◌∷◌, ◌++◌, None, codes}
use Rattle.hippo_values.specs.declared.values.Value.TheVariants.{Null, Int, Text}
use Rattle.hippo_model.specs.declared.audit.Audit.{Audit}
use Rattle.hippo_model.specs.declared.cells.Cell.TheVariants.{Shown, Denied}
use Rattle.hippo_model.specs.declared.entry.Act.TheVariants.{Allow, Insert}
use Rattle.hippo_model.specs.declared.query.Form.TheVariants.{Distinct, Grouped}
use Rattle.hippo_model.specs.declared.query.Out.{Out}
use Rattle.hippo_model.specs.declared.query.Out.TheVariants.{Column, Min, Max}
use Rattle.hippo_model.specs.declared.query.Query.{Query}
use Rattle.hippo_model.specs.declared.query.Ref.{Ref}
use Rattle.hippo_model.specs.Terms.{History, Row}
use Rattle.hippo_model.specs.Audits.{shared_tuple}
use Rattle.hippo_model.proofs.Truths.{truths}
use Rattle.hippo_model_laws.proofs.ExampleHistories.{treatment, nurse, patient, entry, clinic, column, equals, always, ask, asked}
use Rattle.hippo_model_laws.proofs.AuditExamples.{audit, asks, row_of}

-- a third patient has the name of the first
abbrev second_ada : Row
second_ada = Int (pos 3) ∷ Text (codes "Ada") ∷ Null ∷ Int (pos 7) ∷ []

abbrev with_two_adas : History
with_two_adas = clinic ++ entry 8 (Insert patient second_ada) ∷ []

abbrev distinct : Ref → Query
distinct item = record { items = item ∷ []; tables = patient ∷ []; cond = always; form = Distinct }

abbrev one_patient : ℕ → Ref → Audit
one_patient number audited = audit patient (audited ∷ []) (equals 0 (Int (pos number)))

equal_rows_are_answered_once : ask with_two_adas (distinct (column 1)) ≡ (Shown (Text (codes "Ada")) ∷ []) ∷ (Shown (Text (codes "Bob")) ∷ []) ∷ []
equal_rows_are_answered_once = simp truths

cells_that_one_rule_denies_are_equal : ask with_two_adas (distinct (column 2)) ≡ (Denied 0 ∷ []) ∷ []
cells_that_one_rule_denies_are_equal = simp truths

row_that_another_equals_is_not_shared : shared_tuple (asks (distinct (column 1))) with_two_adas (one_patient 1 (column 1)) (asked 9) ≡ None
row_that_another_equals_is_not_shared = simp truths

row_that_stands_alone_is_shared : shared_tuple (asks (distinct (column 1))) with_two_adas (one_patient 2 (column 1)) (asked 9) ≡ row_of patient (Int (pos 2) ∷ [])
row_that_stands_alone_is_shared = simp truths

rows_denied_alike_are_not_shared : shared_tuple (asks (distinct (column 2))) with_two_adas (audit patient (column 2 ∷ []) always) (asked 9) ≡ None
rows_denied_alike_are_not_shared = simp truths

-- zips are allowed, phones are not
abbrev zips_of_two_adas : History
zips_of_two_adas = clinic ++ entry 8 (Allow treatment nurse patient (3 ∷ []) None None) ∷ entry 9 (Insert patient second_ada) ∷ []

-- grouped by name, with these cells from the other items
abbrev by_name : List Ref → List Out → Query
by_name arguments outs = record { items = column 1 ∷ arguments; tables = patient ∷ []; cond = always; form = Grouped (record { keys = 1; outs = outs }) }

abbrev least_zips : Query
least_zips = by_name (column 3 ∷ column 2 ∷ []) (Column 0 ∷ Min 1 ∷ Min 2 ∷ [])

abbrev greatest_zips : Query
greatest_zips = by_name (column 3 ∷ []) (Column 0 ∷ Max 1 ∷ [])

least_values_of_groups : ask zips_of_two_adas least_zips
    ≡ (Shown (Text (codes "Ada")) ∷ Shown (Int (pos 7)) ∷ Shown Null ∷ []) ∷ (Shown (Text (codes "Bob")) ∷ Shown Null ∷ Shown Null ∷ []) ∷ []
least_values_of_groups = simp truths

greatest_values_of_groups : ask zips_of_two_adas greatest_zips ≡ (Shown (Text (codes "Ada")) ∷ Shown (Int (pos 95120)) ∷ []) ∷ (Shown (Text (codes "Bob")) ∷ Shown Null ∷ []) ∷ []
greatest_values_of_groups = simp truths

groups_stand_where_their_first_rows_do : ask (zips_of_two_adas ++ entry 10 (Insert patient (Int (pos 0) ∷ Text (codes "Cy") ∷ Null ∷ Int (pos 5) ∷ [])) ∷ []) (by_name [] (Column 0 ∷ []))
    ≡ (Shown (Text (codes "Cy")) ∷ []) ∷ (Shown (Text (codes "Ada")) ∷ []) ∷ (Shown (Text (codes "Bob")) ∷ []) ∷ []
groups_stand_where_their_first_rows_do = simp truths

row_with_the_least_value_is_shared : shared_tuple (asks least_zips) zips_of_two_adas (one_patient 3 (column 3)) (asked 10) ≡ row_of patient (Int (pos 3) ∷ [])
row_with_the_least_value_is_shared = simp truths

row_without_the_greatest_value_is_not_shared : shared_tuple (asks greatest_zips) zips_of_two_adas (one_patient 3 (column 3)) (asked 11) ≡ None
row_without_the_greatest_value_is_not_shared = simp truths
