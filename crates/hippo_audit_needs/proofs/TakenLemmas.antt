-- A list whose elements are taken out one by one: those left that pass a test, or what was found so
-- far.
use Rattle.std.proofs.Common.{◌≡◌, ℕ, Bool, true, false, ◌||◌, List, [], ◌∷◌, length, sym, refl, ap, ◌∙◌, arith}
use Rattle.std.specs.List.{list_any}

module _ {A : Type 0} (test : A → Bool) (items : List A) (now whole : Bool) (so_far : (list_any test items || now) ≡ whole) where
  pub one-taken : (item : A) (rest : List A) (later : Bool) → items ≡ item ∷ rest → later ≡ (test item || now) → (list_any test rest || later) ≡ whole
  one-taken item rest later split added =
      ap (λ (taken : Bool). list_any test rest || taken) added
      ∙ turned_round (test item) (list_any test rest) now
      ∙ sym (ap (λ (left : List A). list_any test left || now) split)
      ∙ so_far
    where
      turned_round : (x y z : Bool) → (y || (x || z)) ≡ ((x || y) || z)
      turned_round true true z = refl
      turned_round true false z = refl
      turned_round false true z = refl
      turned_round false false z = refl

  pub none-left : items ≡ [] → now ≡ whole
  none-left none = sym (ap (λ (left : List A). list_any test left || now) none) ∙ so_far

  -- the same, by the number of elements
  all-taken : (count : ℕ) → count ≡ length items → count ≡ 0 → now ≡ whole
  all-taken count is none = none-left (empty items (sym is ∙ none))
    where
      empty : (left : List A) → length left ≡ 0 → left ≡ []
      empty [] none = refl
      empty (item ∷ left) none = absurd (omega (arith, none))

-- the same for a test that depends on a place, such as a tuple's places
module _ {P A : Type 0} (test : P → A → Bool) (items : List A) (now whole : P → Bool) (so_far : (place : P) → (list_any (test place) items || now place) ≡ whole place) where
  pub each-taken : (item : A) (rest : List A) (later : P → Bool) → items ≡ item ∷ rest → ((place : P) → later place ≡ (test place item || now place)) → (place : P) → (list_any (test place) rest || later place) ≡ whole place
  each-taken item rest later split added place = one-taken (test place) items (now place) (whole place) (so_far place) item rest (later place) split (added place)

  pub each-of-all : (count : ℕ) → count ≡ length items → count ≡ 0 → (place : P) → now place ≡ whole place
  each-of-all count is none place = all-taken (test place) items (now place) (whole place) (so_far place) count is none
