-- The contents of a store: the stored forms of a valid history, or a list that is damaged at some
-- place.
use Rattle.std.specs.Prelude.{◌≡◌, ℕ, ◌-◌, List, map, take, true}
use Rattle.hippo_model.specs.declared.stored.StoredEntry.{StoredEntry}
use Rattle.hippo_model.specs.Terms.{History, Meaning}
use Rattle.hippo_model.specs.StoredForms.{stored}
use Rattle.hippo_model.specs.Validity.{is_valid}

-- the stored entries are those of this history, and the history is valid
pub record IsStoreOf (meaning : Meaning) (store : List StoredEntry) (history : History)
    : Type 0 where
  pub forms : map stored history ≡ store
  pub valid : is_valid meaning history ≡ true

-- the place of damage, counted from 1: the stored entries before it are those of a valid history,
-- but with the entry at that place they are not
pub record IsDamagedAt (meaning : Meaning) (store : List StoredEntry) (place : ℕ) : Type 0 where
  pub front : History
  pub before : IsStoreOf meaning (take (place - 1) store) front
  pub beyond : (history : History) → ¬ (IsStoreOf meaning (take place store) history)
