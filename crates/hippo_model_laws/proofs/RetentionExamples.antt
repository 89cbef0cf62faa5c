-- Rules that end some days after a row's birth, computed on a small history. Each example is named
-- for what it shows.
use Rattle.std.proofs.Common.{◌≡◌, ℕ, ℤ, pos, List, [], ◌∷◌, ◌++◌, Some, None, refl, codes}
use Rattle.hippo_values.specs.declared.values.Value.TheVariants.{Int, Text}
use Rattle.hippo_model.specs.declared.cells.Cell.TheVariants.{Shown, Denied}
use Rattle.hippo_model.specs.declared.entry.Act.{Act}
use Rattle.hippo_model.specs.declared.entry.Act.TheVariants.{Allow, Insert, Update, Delete, Asked}
use Rattle.hippo_model.specs.declared.entry.Entry.{Entry}
use Rattle.hippo_model.specs.declared.query.Query.{Query}
use Rattle.hippo_model.specs.Terms.{History, Meaning, Row, ShownRow}
use Rattle.hippo_model.specs.Answers.{answer}
use Rattle.hippo_model.specs.Denials.{Denial, denials}
use Rattle.hippo_model.specs.Validity.{damage}
use Rattle.hippo_model.proofs.NamedColumns.{named_columns}
use Rattle.hippo_model.proofs.Truths.{truths}
use Rattle.hippo_model_laws.proofs.ExampleHistories.{treatment, nurse, ann, patient, entry, clinic, column, equals, nursing, select, words_and_texts}

-- 2024-01-04T07:59:59Z, and the second after it: two days after the patients' birth
abbrev last_second : ℤ
last_second = pos 1704355199

abbrev two_days_later : ℤ
two_days_later = pos 1704355200

abbrev entry_at : ℕ → ℤ → Act → Entry
entry_at number moment act = record { seq = number; moment = moment; act = act }

abbrev asked_at : ℕ → ℤ → Entry
asked_at number moment = entry_at number moment (Asked ann treatment nurse (codes "q"))

abbrev ada_with_phone : List ℕ → Row
ada_with_phone phone = Int (pos 1) ∷ Text (codes "Ada") ∷ Text phone ∷ Int (pos 95120) ∷ []

-- phones are shown for two days; the first patient's phone changes in the last second
abbrev for_two_days : History
for_two_days =
    clinic
    ++ entry 8 (Allow treatment nurse patient (2 ∷ []) None (Some 2)) ∷ asked_at 9 last_second ∷ entry_at 10 last_second (Update patient (ada_with_phone (codes "555-7")))
    ∷ asked_at 11 two_days_later ∷ []

-- the first patient's row is deleted and inserted again
abbrev born_again : History
born_again = for_two_days ++ entry_at 12 two_days_later (Delete patient (Int (pos 1) ∷ [])) ∷ entry_at 13 two_days_later (Insert patient (ada_with_phone (codes "555-8"))) ∷ []

abbrev phone : Query
phone = select (column 2 ∷ []) (equals 0 (Int (pos 1)))

abbrev phone_at : History → ℤ → List ShownRow
phone_at history moment = answer history (nursing moment) phone

abbrev asks_phone : Meaning
asks_phone history text = Some phone

abbrev phone_denied_by : ℕ → ℤ → Denial
phone_denied_by rule number = record { table = patient; key = Int number ∷ []; column = codes "phone"; rule = rule }

history_is_not_damaged : damage asks_phone born_again ≡ None
unfolding words_and_texts
history_is_not_damaged = refl

shown_in_the_last_second : phone_at (clinic ++ entry 8 (Allow treatment nurse patient (2 ∷ []) None (Some 2)) ∷ []) last_second ≡ (Shown (Text (codes "555-1")) ∷ []) ∷ []
shown_in_the_last_second = simp truths

changed_phone_is_shown_in_the_last_second : phone_at for_two_days last_second ≡ (Shown (Text (codes "555-7")) ∷ []) ∷ []
changed_phone_is_shown_in_the_last_second = simp truths

denied_two_days_later_though_it_changed : phone_at for_two_days two_days_later ≡ (Denied 8 ∷ []) ∷ []
denied_two_days_later_though_it_changed = simp truths

shown_again_after_a_new_insert : phone_at born_again two_days_later ≡ (Shown (Text (codes "555-8")) ∷ []) ∷ []
shown_again_after_a_new_insert = simp truths

nothing_was_denied_in_the_last_second : denials asks_phone for_two_days (asked_at 9 last_second) ≡ []
nothing_was_denied_in_the_last_second = simp named_columns

both_phones_were_denied_two_days_later : denials asks_phone for_two_days (asked_at 11 two_days_later) ≡ phone_denied_by 8 (pos 1) ∷ phone_denied_by 8 (pos 2) ∷ []
both_phones_were_denied_two_days_later = simp named_columns
