-- Laws on stored forms and stores.
use Rattle.std.specs.Prelude.{◌≡◌, ℕ, true, List, ◌++◌}
use Rattle.hippo_model.specs.declared.entry.Entry.{Entry}
use Rattle.hippo_model.specs.declared.stored.StoredEntry.{StoredEntry}
use Rattle.hippo_model.specs.Terms.{History, Meaning}
use Rattle.hippo_model.specs.StoredForms.{body, stored}
use Rattle.hippo_model.specs.Keepable.{is_keepable}
use Rattle.hippo_model.specs.Stores.{IsStoreOf, IsDamagedAt}

-- if the same bytes begin with the bodies of two entries that can be stored, the entries are the
-- same, and so are the bytes after the bodies
abbrev pub BodyDeterminesEntry : Type 0
BodyDeterminesEntry =
    (a b : Entry) (rest other : List ℕ) → is_keepable a ≡ true → is_keepable b ≡ true
    → body a ++ rest ≡ body b ++ other
    → (a ≡ b) × (rest ≡ other)

-- entries that can be stored and have the same stored form are the same
abbrev pub StoredFormDeterminesEntry : Type 0
StoredFormDeterminesEntry =
    (a b : Entry) → is_keepable a ≡ true → is_keepable b ≡ true → stored a ≡ stored b → a ≡ b

-- stored entries are those of at most one valid history
abbrev pub StoreDeterminesHistory : Type 0
StoreDeterminesHistory =
    (meaning : Meaning) (store : List StoredEntry) (a b : History)
    → IsStoreOf meaning store a → IsStoreOf meaning store b → a ≡ b

-- damaged stored entries are not those of any valid history, and they have one place of damage
pub record DamageDeterminesPlace : Type 0 where
  pub of_none : (meaning : Meaning) (store : List StoredEntry) (place : ℕ)
      → IsDamagedAt meaning store place
      → (history : History) → ¬ (IsStoreOf meaning store history)
  pub one_place : (meaning : Meaning) (store : List StoredEntry) (p q : ℕ)
      → IsDamagedAt meaning store p
      → IsDamagedAt meaning store q → p ≡ q
