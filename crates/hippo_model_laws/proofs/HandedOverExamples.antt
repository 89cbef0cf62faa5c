-- Which entries may be returned when versions or queries are read, and which stored entries fit.
use Rattle.std.proofs.Common.{◌≡◌, ℤ, pos, true, false, Bool, [], ◌∷◌, ◌++◌, None, refl, sym, ap, ◌∙◌, codes, take, arith}
use Rattle.std.proofs.lemmas.Bool.{false≢true}
use Rattle.std.proofs.lemmas.List.{append-nil}
use Rattle.hippo_values.specs.declared.values.Value.TheVariants.{Null, Int}
use Rattle.hippo_model.specs.declared.entry.Act.TheVariants.{Insert, Update, Delete, Asked}
use Rattle.hippo_model.specs.declared.entry.Entry.{Entry}
use Rattle.hippo_model.specs.declared.schema.Schema.{Schema}
use Rattle.hippo_model.specs.declared.stored.StoredEntry.{StoredEntry}
use Rattle.hippo_model.specs.StoredForms.{body, stored}
use Rattle.hippo_model.specs.Keepable.{is_keepable}
use Rattle.hippo_model.specs.HandedOver.{is_wanted_version, is_wanted_question, IsFit}
use Rattle.hippo_model_laws.proofs.ActCodes.{a_body, stored_again}
use Rattle.hippo_model_laws.proofs.DamageExamples.{meaning}
use Rattle.hippo_model_laws.proofs.ExampleHistories.{treatment, nurse, morning, patient, patients, number_column, required, entry, ada, bob, clinic, asked, words_and_texts}

-- versions of the patients
abbrev bob_comes : Entry
bob_comes = entry 7 (Insert patient bob)

version_above_the_number : is_wanted_version patients 6 (take 6 clinic) bob_comes ≡ true
version_above_the_number = refl

version_of_the_number_itself : is_wanted_version patients 7 (take 6 clinic) bob_comes ≡ false
version_of_the_number_itself = refl

insert_of_a_key_that_is_live : is_wanted_version patients 6 clinic (entry 8 (Insert patient ada)) ≡ false
insert_of_a_key_that_is_live = refl

update_of_a_key_that_is_live : is_wanted_version patients 6 clinic (entry 8 (Update patient ada)) ≡ true
update_of_a_key_that_is_live = refl

update_of_a_key_that_is_not_live : is_wanted_version patients 6 (take 6 clinic) (entry 8 (Update patient bob)) ≡ false
update_of_a_key_that_is_not_live = refl

delete_of_a_key_that_is_live : is_wanted_version patients 6 clinic (entry 8 (Delete patient (Int (pos 2) ∷ []))) ≡ true
delete_of_a_key_that_is_live = refl

delete_of_a_key_that_is_not_live : is_wanted_version patients 6 clinic (entry 8 (Delete patient (Int (pos 3) ∷ []))) ≡ false
delete_of_a_key_that_is_not_live = refl

row_with_a_cell_less : is_wanted_version patients 6 clinic (entry 8 (Insert patient (Int (pos 3) ∷ Null ∷ Null ∷ []))) ≡ false
row_with_a_cell_less = refl

abbrev wards : Schema
wards = record { name = codes "ward"; columns = required (number_column (codes "room")) ∷ []; key = 0 ∷ []; subject = None }

version_of_another_table : is_wanted_version wards 6 (take 6 clinic) bob_comes ≡ false
version_of_another_table = refl

question_is_no_version : is_wanted_version patients 6 clinic (asked 8) ≡ false
question_is_no_version = refl

-- the queries of a period
abbrev is_asked_in : ℤ → ℤ → Entry → Bool
is_asked_in from to entry = is_wanted_question meaning from to 7 clinic entry

question_at_both_ends_of_the_period : is_asked_in morning morning (asked 8) ≡ true
question_at_both_ends_of_the_period = refl

question_before_the_period : is_asked_in (pos 1704182401) (pos 1704182402) (asked 8) ≡ false
question_before_the_period = refl

question_after_the_period : is_asked_in (pos 1704182398) (pos 1704182399) (asked 8) ≡ false
question_after_the_period = refl

question_of_the_number_itself : is_asked_in morning morning (asked 7) ≡ false
question_of_the_number_itself = refl

question_of_a_user_who_is_not_authorized : is_asked_in morning morning (entry 8 (Asked (codes "bea") treatment nurse (codes "q"))) ≡ false
question_of_a_user_who_is_not_authorized = refl

question_before_its_user_is_authorized : is_wanted_question meaning morning morning 0 (take 3 clinic) (asked 4) ≡ false
question_before_its_user_is_authorized = refl

question_that_means_nothing : is_wanted_question (λ history text. None) morning morning 7 clinic (asked 8) ≡ false
question_that_means_nothing = refl

version_is_no_question : is_asked_in morning morning (entry 8 (Update patient ada)) ≡ false
version_is_no_question = refl

-- stored entries that fit, and stored entries that do not
bob_can_be_kept : is_keepable bob_comes ≡ true
unfolding words_and_texts
bob_can_be_kept = refl

stored_version_that_was_asked : IsFit (is_wanted_version patients 6 (take 6 clinic)) (stored bob_comes)
stored_version_that_was_asked = record { entry = bob_comes; form = refl; keepable = bob_can_be_kept; asked = refl }

stored_version_that_was_not_asked : ¬ (IsFit (is_wanted_version patients 7 (take 6 clinic)) (stored bob_comes))
stored_version_that_was_not_asked fit =
    let same : fit.entry ≡ bob_comes = stored_again fit.entry bob_comes fit.keepable bob_can_be_kept fit.form in
    false≢true (sym (ap (is_wanted_version patients 7 (take 6 clinic)) same) ∙ fit.asked)

stored_question_that_was_asked : IsFit (is_wanted_question meaning morning morning 7 clinic) (stored (asked 8))
unfolding words_and_texts
stored_question_that_was_asked = record { entry = asked 8; form = refl; keepable = refl; asked = refl }

-- a stored entry that fits no read
abbrev IsNeverFit : StoredEntry → Type 0
IsNeverFit kept = (was_asked : Entry → Bool) → ¬ (IsFit was_asked kept)

number_beside_the_body_is_unfit : IsNeverFit (record { seq = 8; moment = morning; kind = 2; table = patient; body = body bob_comes })
number_beside_the_body_is_unfit was_asked fit =
    let same : body fit.entry ≡ body bob_comes = ap (λ (kept : StoredEntry). kept.body) fit.form in
    let entries : fit.entry ≡ bob_comes = (a_body.once fit.entry bob_comes [] [] fit.keepable bob_can_be_kept (ap (λ bytes. bytes ++ []) same)).0 in
    let numbers : bob_comes.seq ≡ 8 = sym (ap (λ (e : Entry). e.seq) entries) ∙ ap (λ (kept : StoredEntry). kept.seq) fit.form in
    omega (arith, numbers)

body_with_one_byte_more_is_unfit : IsNeverFit (record { seq = 7; moment = morning; kind = 2; table = patient; body = body bob_comes ++ 0 ∷ [] })
body_with_one_byte_more_is_unfit was_asked fit =
    let longer : body fit.entry ≡ body bob_comes ++ 0 ∷ [] = ap (λ (kept : StoredEntry). kept.body) fit.form in
    let remaining = (a_body.once bob_comes fit.entry (0 ∷ []) [] bob_can_be_kept fit.keepable (sym longer ∙ sym (append-nil (body fit.entry)))).1 in
    absurd cc

body_with_one_byte_less_is_unfit : IsNeverFit (record { seq = 7; moment = morning; kind = 2; table = patient; body = take 54 (body bob_comes) })
body_with_one_byte_less_is_unfit was_asked fit =
    let whole : body fit.entry ++ 0 ∷ [] ≡ body bob_comes = ap (λ (kept : StoredEntry). kept.body ++ 0 ∷ []) fit.form in
    let remaining = (a_body.once bob_comes fit.entry [] (0 ∷ []) bob_can_be_kept fit.keepable (append-nil (body bob_comes) ∙ sym whole)).1 in
    absurd cc
