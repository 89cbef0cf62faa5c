-- Answers, computed on small histories. Each example is named for what it shows.
use Rattle.std.proofs.Common.{◌≡◌, ℤ, pos, List, [], ◌∷◌, ◌++◌, Some, None, true, false, refl, codes}
use Rattle.hippo_values.specs.declared.values.Value.TheVariants.{Null, Int, Text}
use Rattle.hippo_model.specs.declared.born_row.BornRow.{BornRow}
use Rattle.hippo_model.specs.Terms.{History, ShownRow}
use Rattle.hippo_model.specs.declared.cells.Cell.TheVariants.{Shown, Denied}
use Rattle.hippo_model.specs.declared.entry.ItemKind.TheVariants.{OptIn, OptOut}
use Rattle.hippo_model.specs.declared.entry.Act.TheVariants.{Item, Allow, Revoke, Choice, Insert}
use Rattle.hippo_model.specs.declared.query.Operand.TheVariants.{Column}
use Rattle.hippo_model.specs.declared.query.CondOf.TheVariants.{All, Not, Missing}
use Rattle.hippo_model.specs.declared.query.Expr.TheVariants.{Keep, Null as NullBy, Aged, Case}
use Rattle.hippo_model.specs.declared.query.Masked.{Masked}
use Rattle.hippo_model.specs.Masking.{masked_answer}
use Rattle.hippo_model.specs.Rules.{choice_at}
use Rattle.hippo_model.proofs.Truths.{truths}
use Rattle.hippo_model_laws.proofs.ExampleHistories.{treatment, nurse, patient, entry, born_in_the_morning, ada, bob, clinic, column, equals, select, always, ask}

denied_by_0_where_no_rule_speaks : ask clinic (select (column 1 ∷ column 2 ∷ []) always)
    ≡ (Shown (Text (codes "Ada")) ∷ Denied 0 ∷ []) ∷ (Shown (Text (codes "Bob")) ∷ Denied 0 ∷ []) ∷ []
denied_by_0_where_no_rule_speaks = simp truths

abbrev phones_revoked : History
phones_revoked = clinic ++ entry 8 (Allow treatment nurse patient (2 ∷ []) None None) ∷ entry 9 (Revoke treatment nurse patient (2 ∷ [])) ∷ []

revoked_column_names_its_revocation : ask phones_revoked (select (column 2 ∷ []) always) ≡ (Denied 9 ∷ []) ∷ (Denied 9 ∷ []) ∷ []
revoked_column_names_its_revocation = simp truths

-- the phone of the first patient, if an opt-in item allows it
abbrev calls : History
calls = clinic ++ entry 8 (Item (codes "calls") OptIn) ∷ entry 9 (Allow treatment nurse patient (2 ∷ []) (Some (codes "calls")) None) ∷ []

abbrev first_phone : History → List ShownRow
first_phone history = ask history (select (column 2 ∷ []) (equals 0 (Int (pos 1))))

opt_in_denies_without_a_choice : first_phone calls ≡ (Denied 9 ∷ []) ∷ []
opt_in_denies_without_a_choice = simp truths

opt_in_shows_after_a_yes : first_phone (calls ++ entry 10 (Choice (pos 1) (codes "calls") true) ∷ []) ≡ (Shown (Text (codes "555-1")) ∷ []) ∷ []
opt_in_shows_after_a_yes = simp truths

opt_in_denies_after_a_later_no : first_phone (calls ++ entry 10 (Choice (pos 1) (codes "calls") true) ∷ entry 11 (Choice (pos 1) (codes "calls") false) ∷ []) ≡ (Denied 9 ∷ []) ∷ []
opt_in_denies_after_a_later_no = simp truths

abbrev mail : History
mail = clinic ++ entry 8 (Item (codes "mail") OptOut) ∷ entry 9 (Allow treatment nurse patient (2 ∷ []) (Some (codes "mail")) None) ∷ entry 10 (Choice (pos 2) (codes "mail") false) ∷ []

opt_out_denies_only_after_a_no : ask mail (select (column 0 ∷ column 2 ∷ []) always)
    ≡ (Shown (Int (pos 1)) ∷ Shown (Text (codes "555-1")) ∷ []) ∷ (Shown (Int (pos 2)) ∷ Denied 9 ∷ []) ∷ []
opt_out_denies_only_after_a_no = simp truths

forbidden_key_removes_its_row : ask (clinic ++ entry 8 (Revoke treatment nurse patient (0 ∷ [])) ∷ []) (select (column 1 ∷ []) always) ≡ []
forbidden_key_removes_its_row = refl

denied_zip_is_unknown_under_NOT : ask clinic (select (column 1 ∷ []) (Not (equals 3 (Int (pos 95120))))) ≡ []
denied_zip_is_unknown_under_NOT = simp truths

abbrev zips : History
zips = clinic ++ entry 8 (Allow treatment nurse patient (3 ∷ []) None None) ∷ []

null_is_unknown_under_NOT : ask zips (select (column 1 ∷ []) (Not (equals 3 (Int (pos 1))))) ≡ (Shown (Text (codes "Ada")) ∷ []) ∷ []
null_is_unknown_under_NOT = simp truths

null_is_found_by_IS_NULL : ask zips (select (column 1 ∷ []) (Missing (Column (column 3)))) ≡ (Shown (Text (codes "Bob")) ∷ []) ∷ []
null_is_found_by_IS_NULL = simp truths

equal_rows_stay : ask (clinic ++ entry 8 (Insert patient (Int (pos 3) ∷ Text (codes "Ada") ∷ Null ∷ Int (pos 7) ∷ [])) ∷ []) (select (column 1 ∷ []) (equals 1 (Text (codes "Ada"))))
    ≡ (Shown (Text (codes "Ada")) ∷ []) ∷ (Shown (Text (codes "Ada")) ∷ []) ∷ []
equal_rows_stay = simp truths

abbrev both : List BornRow
both = born_in_the_morning ada ∷ born_in_the_morning bob ∷ []

-- the same rules written into a query: the number is always shown, the phone by the patient's
-- choice on mail
abbrev masked : Masked
masked = record {
  items = Keep (column 0) ∷ Case (column 2) (column 0) (codes "mail") 9 false None ∷ NullBy 0 ∷ [];
  tables = patient ∷ [];
  guards = record { table = 0; expr = Keep (column 0) } ∷ [];
  cond = All [];
}

rules_in_a_query_mask_its_cells : masked_answer (choice_at mail) masked (both ∷ [])
    ≡ (Shown (Int (pos 1)) ∷ Shown (Text (codes "555-1")) ∷ Denied 0 ∷ []) ∷ (Shown (Int (pos 2)) ∷ Denied 9 ∷ Denied 0 ∷ []) ∷ []
rules_in_a_query_mask_its_cells = simp truths

denied_guard_removes_its_row : masked_answer (choice_at mail) (record masked { guards = record { table = 0; expr = NullBy 8 } ∷ [] }) (both ∷ []) ≡ []
denied_guard_removes_its_row = refl

-- phones with an age: shown in rows that were born after a second
abbrev aged : ℤ → Masked
aged after = record masked { items = Aged (column 2) 8 after ∷ [] }

row_born_after_the_second_is_shown : masked_answer (choice_at mail) (aged (pos 1704182399)) (both ∷ []) ≡ (Shown (Text (codes "555-1")) ∷ []) ∷ (Shown (Text (codes "555-2")) ∷ []) ∷ []
row_born_after_the_second_is_shown = simp truths

row_born_in_the_second_is_denied : masked_answer (choice_at mail) (aged (pos 1704182400)) (both ∷ []) ≡ (Denied 8 ∷ []) ∷ (Denied 8 ∷ []) ∷ []
row_born_in_the_second_is_denied = simp truths

-- the same, by the patient's choice on mail
abbrev aged_by_choice : ℤ → Masked
aged_by_choice after = record masked { items = Case (column 2) (column 0) (codes "mail") 9 false (Some after) ∷ [] }

choice_decides_on_a_row_born_after_the_second : masked_answer (choice_at mail) (aged_by_choice (pos 1704182399)) (both ∷ []) ≡ (Shown (Text (codes "555-1")) ∷ []) ∷ (Denied 9 ∷ []) ∷ []
choice_decides_on_a_row_born_after_the_second = simp truths

no_choice_shows_a_row_born_in_the_second : masked_answer (choice_at mail) (aged_by_choice (pos 1704182400)) (both ∷ []) ≡ (Denied 9 ∷ []) ∷ (Denied 9 ∷ []) ∷ []
no_choice_shows_a_row_born_in_the_second = simp truths
