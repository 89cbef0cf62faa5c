-- Damaged histories, each with the place of its damage.
use Rattle.std.proofs.Common.{◌≡◌, ℕ, pos, [], ◌∷◌, ◌++◌, Option, Some, None, refl, codes, take}
use Rattle.hippo_values.specs.declared.values.Value.TheVariants.{Null, Int, Text}
use Rattle.hippo_model.specs.declared.entry.Act.TheVariants.{Create, Purpose, Recipient, Item, Authorize, Deauthorize, Allow, Insert, Update, Delete, Asked}
use Rattle.hippo_model.specs.declared.entry.Entry.{Entry}
use Rattle.hippo_model.specs.declared.entry.ItemKind.TheVariants.{OptIn}
use Rattle.hippo_model.specs.declared.schema.Schema.{Schema}
use Rattle.hippo_model.specs.Terms.{Meaning}
use Rattle.hippo_model.specs.Validity.{damage}
use Rattle.hippo_model_laws.proofs.ExampleHistories.{treatment, nurse, ann, patient, patients, number_column, required, entry, ada, bob, clinic, column, select, always, asked, words_and_texts}

-- every query text means this query
abbrev pub meaning : Meaning
meaning history text = Some (select (column 1 ∷ []) always)

-- the damage of the clinic's history with one more entry
abbrev damage_by : Entry → Option ℕ
damage_by next = damage meaning (clinic ++ next ∷ [])

-- a table without a subject
abbrev wards : Schema
wards = record { name = codes "ward"; columns = required (number_column (codes "room")) ∷ []; key = 0 ∷ []; subject = None }

history_without_damage : damage_by (asked 8) ≡ None
unfolding words_and_texts
history_without_damage = refl

missing_entry : damage meaning (entry 1 (Create patients) ∷ entry 3 (Recipient nurse) ∷ []) ≡ Some 2
unfolding words_and_texts
missing_entry = refl

-- one second before the entries so far
falling_moment : damage meaning (take 6 clinic ++ record { seq = 7; moment = pos 1704182399; act = Insert patient bob } ∷ []) ≡ Some 7
unfolding words_and_texts
falling_moment = refl

unknown_name : damage_by (entry 8 (Authorize ann (codes "billing") nurse)) ≡ Some 8
unfolding words_and_texts
unknown_name = refl

cell_that_does_not_fit : damage_by (entry 8 (Insert patient (Int (pos 3) ∷ Null ∷ Null ∷ Text (codes "95120") ∷ []))) ≡ Some 8
unfolding words_and_texts
cell_that_does_not_fit = refl

insert_of_a_live_key : damage meaning (take 6 clinic ++ entry 7 (Insert patient ada) ∷ []) ≡ Some 7
unfolding words_and_texts
insert_of_a_live_key = refl

delete_of_a_missing_key : damage_by (entry 8 (Delete patient (Int (pos 9) ∷ []))) ≡ Some 8
unfolding words_and_texts
delete_of_a_missing_key = refl

update_of_a_missing_key : damage_by (entry 8 (Update patient (Int (pos 3) ∷ Null ∷ Null ∷ Null ∷ []))) ≡ Some 8
unfolding words_and_texts
update_of_a_missing_key = refl

text_that_does_not_resolve : damage (λ history text. None) (clinic ++ asked 8 ∷ []) ≡ Some 8
unfolding words_and_texts
text_that_does_not_resolve = refl

user_who_is_not_authorized : damage_by (entry 8 (Asked (codes "bea") treatment nurse (codes "q"))) ≡ Some 8
unfolding words_and_texts
user_who_is_not_authorized = refl

user_whose_authorization_ended : damage meaning (clinic ++ entry 8 (Deauthorize ann treatment nurse) ∷ asked 9 ∷ []) ≡ Some 9
unfolding words_and_texts
user_whose_authorization_ended = refl

item_on_a_table_without_subject : damage meaning (clinic ++ entry 8 (Create wards) ∷ entry 9 (Item (codes "calls") OptIn) ∷ entry 10 (Allow treatment nurse (codes "ward") (0 ∷ []) (Some (codes "calls")) None) ∷ [])
    ≡ Some 10
unfolding words_and_texts
item_on_a_table_without_subject = refl

table_that_is_created_twice : damage_by (entry 8 (Create patients)) ≡ Some 8
unfolding words_and_texts
table_that_is_created_twice = refl

damage_is_the_first : damage meaning (clinic ++ entry 8 (Insert patient ada) ∷ entry 8 (Create patients) ∷ []) ≡ Some 8
unfolding words_and_texts
damage_is_the_first = refl

name_that_is_reserved : damage_by (entry 8 (Purpose (codes "select"))) ≡ Some 8
unfolding words_and_texts
name_that_is_reserved = refl

empty_question : damage_by (entry 8 (Asked ann treatment nurse [])) ≡ Some 8
unfolding words_and_texts
empty_question = refl

abbrev phones_for : ℕ → Entry
phones_for days = entry 8 (Allow treatment nurse patient (2 ∷ []) None (Some days))

rule_for_no_day : damage_by (phones_for 0) ≡ Some 8
unfolding words_and_texts
rule_for_no_day = refl

rule_for_a_hundred_years : damage_by (phones_for 36500) ≡ None
unfolding words_and_texts
rule_for_a_hundred_years = refl

rule_for_more_than_a_hundred_years : damage_by (phones_for 36501) ≡ Some 8
unfolding words_and_texts
rule_for_more_than_a_hundred_years = refl
