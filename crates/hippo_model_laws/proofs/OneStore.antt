-- Stored entries belong to at most one history.
use Rattle.std.proofs.Common.{◌≡◌, ℕ, ◌-◌, ◌<◌, true, List, [], ◌∷◌, ◌++◌, take, drop, refl, sym, ap, subst, ◌∙◌, arith, inl, inr}
use Rattle.std.specs.List.{list_all}
use Rattle.std.proofs.lemmas.Bool.{and_parts, and_from, cases_lt}
use Rattle.std.proofs.lemmas.List.{take-append-drop, take-map, take-take}
use Rattle.hippo_model.specs.declared.entry.Entry.{Entry}
use Rattle.hippo_model.specs.declared.stored.StoredEntry.{StoredEntry}
use Rattle.hippo_model.specs.Terms.{History, Meaning}
use Rattle.hippo_model.specs.StoredForms.{stored}
use Rattle.hippo_model.specs.Keepable.{is_keepable}
use Rattle.hippo_model.specs.Validity.{may_follow, is_valid}
use Rattle.hippo_model.specs.Stores.{IsStoreOf, IsDamagedAt}
use Rattle.hippo_model_laws.proofs.ActCodes.{all_stored_again}
use Rattle.hippo_model_laws.proofs.ValidFronts.{front_is_valid, holds_of_each_valid}

list_all-append : (history : History) (entry : Entry) → list_all is_keepable history ≡ true → is_keepable entry ≡ true → list_all is_keepable (history ++ entry ∷ []) ≡ true
list_all-append [] entry all one = and_from _ _ one refl
list_all-append (first ∷ history) entry all one =
    let both = and_parts (is_keepable first) (list_all is_keepable history) all in
    and_from _ _ both.0 (list_all-append history entry both.1 one)

can_be_kept : (meaning : Meaning) (history : History) (entry : Entry) → may_follow meaning history entry ≡ true → is_keepable entry ≡ true
can_be_kept meaning history entry may = (and_parts _ _ (and_parts _ _ (and_parts _ _ may).0).0).0

-- each entry of a valid history can be stored
pub all_can_be_kept : (meaning : Meaning) (history : History) → is_valid meaning history ≡ true → list_all is_keepable history ≡ true
all_can_be_kept meaning history valid =
    holds_of_each_valid meaning (λ h. list_all is_keepable h ≡ true) (λ h entry is_good so_far may. list_all-append h entry so_far (can_be_kept meaning h entry may)) refl history valid

pub one_history : (meaning : Meaning) (store : List StoredEntry) (a b : History) → IsStoreOf meaning store a → IsStoreOf meaning store b → a ≡ b
one_history meaning store a b first second =
    all_stored_again a b (all_can_be_kept meaning a first.valid) (all_can_be_kept meaning b second.valid) (first.forms ∙ sym second.forms)

-- the first stored entries belong to the first entries
pub store_front : (meaning : Meaning) (store : List StoredEntry) (history : History) (n : ℕ) → IsStoreOf meaning store history → IsStoreOf meaning (take n store) (take n history)
store_front meaning store history n whole = record {
  forms = sym (take-map stored n history) ∙ ap (take n) whole.forms;
  valid = front_is_valid meaning (take n history) (drop n history) (ap (is_valid meaning) (take-append-drop n history) ∙ whole.valid);
}

pub of_none : (meaning : Meaning) (store : List StoredEntry) (place : ℕ) → IsDamagedAt meaning store place → (history : History) → ¬ (IsStoreOf meaning store history)
of_none meaning store place damaged history whole = damaged.beyond (take place history) (store_front meaning store history place whole)

-- a place of damage is not before another one
not_below : (meaning : Meaning) (store : List StoredEntry) (p q : ℕ) → IsDamagedAt meaning store p → IsDamagedAt meaning store q → ¬ (p < q)
not_below meaning store p q first second below =
    let shorter : take p (take (q - 1) store) ≡ take p store = take-take p (q - 1) store (omega arith) in
    first.beyond (take p second.front) (subst (λ (s : List StoredEntry). IsStoreOf meaning s (take p second.front)) shorter (store_front meaning (take (q - 1) store) second.front p second.before))

pub one_place : (meaning : Meaning) (store : List StoredEntry) (p q : ℕ) → IsDamagedAt meaning store p → IsDamagedAt meaning store q → p ≡ q
one_place meaning store p q first second =
    elim (cases_lt p q) [
      | inl below ↦ absurd (not_below meaning store p q first second below)
      | inr above ↦ elim (cases_lt q p) [
        | inl below ↦ absurd (not_below meaning store q p second first below)
        | inr as_much ↦ omega arith
      ]
    ]
