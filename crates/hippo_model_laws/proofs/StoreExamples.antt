-- Stored entries, and stores whose damage shows in their bytes alone.
use Rattle.std.proofs.Common.{◌≡◌, ℕ, pos, negsuc, true, false, Bool, ◌&&◌, List, [], ◌∷◌, ◌++◌, Some, refl, sym, ap, ◌∙◌, codes, take, drop}
use Rattle.std.specs.Prelude.{None, nat_le, map}
use Rattle.std.specs.List.{list_all}
use Rattle.std.specs.Str.{bytes_eq}
use Rattle.std.specs.Cmp.Lexicographic.{nat_list_eq_equiv}
use mathlib.Core.Bool.{false≢true}
use Rattle.std.proofs.lemmas.List.{append-nil}
use Rattle.hippo_values.specs.declared.values.Value.TheVariants.{Null, Int, Text, Day}
use Rattle.hippo_model.specs.declared.entry.Act.{Act}
use Rattle.hippo_model.specs.declared.entry.Act.TheVariants.{Create, Insert, Purpose, Allow}
use Rattle.hippo_model.specs.declared.entry.Entry.{Entry}
use Rattle.hippo_model.specs.declared.stored.StoredEntry.{StoredEntry}
use Rattle.hippo_model.specs.Terms.{History}
use Rattle.hippo_model.specs.StoredForms.{body, stored, act_format, number_bytes, act_kind, act_bytes, list_bytes, value_bytes}
use Rattle.hippo_model.specs.Keepable.{is_keepable}
use Rattle.hippo_model.specs.Stores.{IsStoreOf, IsDamagedAt}
use Rattle.hippo_model_laws.proofs.ActCodes.{a_body}
use Rattle.hippo_model_laws.proofs.DamageExamples.{meaning}
use Rattle.hippo_model_laws.proofs.ExampleHistories.{entry, clinic, morning, patient, ada, bob, number_column, text_column, required, words_and_texts}

care_is_kept_in_23_bytes : stored (entry 1 (Purpose (codes "care")))
    ≡ record {
      seq = 1;
      moment = morning;
      kind = 5;
      table = [];
      body = 1 ∷ 0 ∷ 0 ∷ 0 ∷ 0 ∷ 0 ∷ 0 ∷ 0 ∷ 1 ∷ 0 ∷ 0 ∷ 0 ∷ 0 ∷ 101 ∷ 147 ∷ 194 ∷ 128 ∷ 5 ∷ 4 ∷ 99 ∷ 97 ∷ 114 ∷ 101 ∷ [];
    }
care_is_kept_in_23_bytes = refl

values_are_kept : list_bytes value_bytes (Null ∷ Int (negsuc 1) ∷ Text (codes "ab") ∷ Day (pos 19782) ∷ [])
    ≡ 4
    ∷ 0
    ∷ 1 ∷ 255 ∷ 255 ∷ 255 ∷ 255 ∷ 255 ∷ 255 ∷ 255 ∷ 254
    ∷ 2 ∷ 0 ∷ 0 ∷ 0 ∷ 2 ∷ 97 ∷ 98
    ∷ 3 ∷ 0 ∷ 0 ∷ 77 ∷ 70 ∷ []
values_are_kept = refl

table_is_kept : act_bytes (Create (record { name = codes "ward"; columns = required (number_column (codes "room")) ∷ text_column (codes "site") ∷ []; key = 1 ∷ 0 ∷ []; subject = Some 0 }))
    ≡ 4 ∷ codes "ward" ++ 2 ∷ 4 ∷ codes "room" ++ 1 ∷ 1 ∷ 4 ∷ codes "site" ++ 2 ∷ 0 ∷ 2 ∷ 1 ∷ 0 ∷ 1 ∷ []
table_is_kept = refl

rule_is_kept : act_bytes (Allow (codes "care") (codes "nurse") (codes "ward") (1 ∷ 0 ∷ []) (Some (codes "mail")) None)
    ≡ 4 ∷ codes "care" ++ 5 ∷ codes "nurse" ++ 4 ∷ codes "ward" ++ 2 ∷ 1 ∷ 0 ∷ 1 ∷ 4 ∷ codes "mail"
rule_is_kept = refl

-- 36,500 days are 142 * 256 + 148
rule_with_days_is_kept_in_format_2 : body (entry 8 (Allow (codes "care") (codes "nurse") (codes "ward") (1 ∷ 0 ∷ []) None (Some 36500)))
    ≡ 2 ∷ 0 ∷ 0 ∷ 0 ∷ 0 ∷ 0 ∷ 0 ∷ 0 ∷ 8 ∷ 0 ∷ 0 ∷ 0 ∷ 0 ∷ 101 ∷ 147 ∷ 194 ∷ 128 ∷ 10
    ∷ 4 ∷ codes "care" ++ 5 ∷ codes "nurse" ++ 4 ∷ codes "ward" ++ 2 ∷ 1 ∷ 0 ∷ 0 ∷ 0 ∷ 0 ∷ 142 ∷ 148 ∷ []
rule_with_days_is_kept_in_format_2 = refl

care_can_be_kept : is_keepable (entry 1 (Purpose (codes "care"))) ≡ true
unfolding words_and_texts
care_can_be_kept = refl

abbrev care : Entry
care = entry 1 (Purpose (codes "care"))

-- care's body with one more byte, without its last byte, and in format 0
one_byte_more_is_no_body : (other : Entry) → is_keepable other ≡ true → ¬ (body other ≡ body care ++ 0 ∷ [])
one_byte_more_is_no_body other keepable e =
    let remaining = (a_body.once care other (0 ∷ []) [] care_can_be_kept keepable (sym e ∙ sym (append-nil (body other)))).1 in absurd cc

one_byte_less_is_no_body : (other : Entry) → is_keepable other ≡ true → ¬ (body other ++ 101 ∷ [] ≡ body care)
one_byte_less_is_no_body other keepable e =
    let remaining = (a_body.once care other [] (101 ∷ []) care_can_be_kept keepable (append-nil (body care) ∙ sym e)).1 in absurd cc

format_is_not_0 : (act : Act) → ¬ (act_format act ≡ 0)
format_is_not_0 (Allow purpose recipient table columns item (Some days)) e = absurd cc
format_is_not_0 act e = absurd cc

format_0_is_no_body : (other : Entry) → ¬ (body other ≡ 0 ∷ drop 1 (body care))
format_0_is_no_body other e = format_is_not_0 other.act cc

reserved_word_cannot_be_kept : is_keepable (entry 1 (Purpose (codes "select"))) ≡ false
unfolding words_and_texts
reserved_word_cannot_be_kept = refl

-- the kind is one of the thirteen, and the body has the same number as the field beside it
abbrev agrees_with_itself : StoredEntry → Bool
agrees_with_itself kept = nat_le kept.kind 13 && bytes_eq (take 8 (drop 1 kept.body)) (number_bytes kept.seq)

is_one_of_thirteen : (act : Act) → nat_le (act_kind act) 13 ≡ true
is_one_of_thirteen (Create schema) = refl
is_one_of_thirteen act = refl

stored_agrees_with_itself : (entry : Entry) → agrees_with_itself (stored entry) ≡ true
stored_agrees_with_itself entry = rw (is_one_of_thirteen entry.act) (nat_list_eq_equiv.refl (number_bytes entry.seq))

all_agree : (history : History) → list_all agrees_with_itself (map stored history) ≡ true
all_agree [] = refl
all_agree (entry ∷ later) = rw (stored_agrees_with_itself entry) (all_agree later)

-- a store with an entry that does not agree with itself belongs to no history
of_no_history : (store : List StoredEntry) → list_all agrees_with_itself store ≡ false → (history : History) → ¬ (IsStoreOf meaning store history)
of_no_history store wrong history is_store = false≢true (sym wrong ∙ sym (ap (list_all agrees_with_itself) is_store.forms) ∙ all_agree history)

-- the clinic's store with its last two entries, or one more entry, given as they are
abbrev six : List StoredEntry
six = map stored (take 6 clinic)

abbrev with_number : ℕ → StoredEntry → StoredEntry
with_number number kept = record { seq = number; moment = kept.moment; kind = kept.kind; table = kept.table; body = kept.body }

abbrev with_kind : ℕ → StoredEntry → StoredEntry
with_kind kind kept = record { seq = kept.seq; moment = kept.moment; kind = kind; table = kept.table; body = kept.body }

abbrev with_body_of : StoredEntry → StoredEntry → StoredEntry
with_body_of other kept = record { seq = kept.seq; moment = kept.moment; kind = kept.kind; table = kept.table; body = other.body }

abbrev ada_entry : Entry
ada_entry = entry 6 (Insert patient ada)

abbrev bob_entry : Entry
bob_entry = entry 7 (Insert patient bob)

number_beside_the_body : IsDamagedAt meaning (six ++ with_number 8 (stored bob_entry) ∷ []) 7
unfolding words_and_texts
number_beside_the_body = record {
  front = take 6 clinic;
  before = record { forms = refl; valid = refl };
  beyond = of_no_history _ refl;
}

bodies_that_changed_places : IsDamagedAt meaning
    (map stored (take 5 clinic) ++ with_body_of (stored bob_entry) (stored ada_entry) ∷ with_body_of (stored ada_entry) (stored bob_entry) ∷ []) 6
unfolding words_and_texts
bodies_that_changed_places = record {
  front = take 5 clinic;
  before = record { forms = refl; valid = refl };
  beyond = of_no_history _ refl;
}

kind_that_is_none : IsDamagedAt meaning (map stored clinic ++ with_kind 99 (stored (entry 8 (Purpose (codes "billing")))) ∷ []) 8
unfolding words_and_texts
kind_that_is_none = record {
  front = clinic;
  before = record { forms = refl; valid = refl };
  beyond = of_no_history _ refl;
}
