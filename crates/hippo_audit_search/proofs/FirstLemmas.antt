-- The first places of a product that pass a test.
use Rattle.std.proofs.Common.{◌≡◌, ℕ, zero, suc, ◌+◌, ◌<◌, ◌≤◌, Bool, true, false, ◌&&◌, cond, List, [], ◌∷◌, map, length, refl, ap, ◌∙◌, Option, Some, None, option_map, nat_lt, inl, inr, ◌⊎◌, arith, ltb-true}
use Rattle.std.specs.Prelude.{find}
use Rattle.std.specs.Option.{option_or}
use Rattle.std.specs.List.{flat_map, range_with_len}
use Rattle.std.proofs.lemmas.Bool.{and_parts, false≢true}
use Rattle.std.proofs.lemmas.Bool.Decides.{nat_tests}
use Rattle.std.proofs.lemmas.List.Folds.{find-append}
use Rattle.hippo_tables_keyed.specs.RowSets.{KeyedRows}
use Rattle.hippo_model.specs.Terms.{Place}
use Rattle.hippo_join_lookups.specs.Places.{in_range, places_of}
use Rattle.hippo_audit_search.specs.FirstPlaces.{AreFirst}

pub find-map : {A B : Type 0} (test : B → Bool) (f : A → B) (xs : List A) → find test (map f xs) ≡ option_map f (find (λ x. test (f x)) xs)
find-map test f [] = refl
find-map {A} {B} test f (x ∷ xs) = by (test (f x)) (find test (map f xs)) (find (λ y. test (f y)) xs) (find-map test f xs)
  where
    by : (b : Bool) (found : Option B) (other : Option A) → found ≡ option_map f other → cond b (Some (f x)) found ≡ option_map f (cond b (Some x) other)
    by true found other e = refl
    by false found other e = e

abbrev remaining : Place → List (List Place) → List (List Place)
remaining place some = map (λ others. place ∷ others) some

abbrev after_each : List (List Place) → Place → ℕ → List (List Place)
after_each some start n = flat_map (λ place. remaining place some) (range_with_len start n)

module _ (test : List Place → Bool) (some : List (List Place)) where
  find-remaining : (place : Place) → find test (remaining place some) ≡ option_map (λ others. place ∷ others) (find (λ others. test (place ∷ others)) some)
  find-remaining place = find-map test (λ others. place ∷ others) some

  -- no place in a range
  none-remaining : (start n : ℕ) → ((place : Place) → start ≤ place → place < start + n → find test (remaining place some) ≡ None) → find test (after_each some start n) ≡ None
  none-remaining start zero none = refl
  none-remaining start (suc n) none =
      find-append test (remaining start some) (after_each some (start + 1) n)
      ∙ (λ i. option_or (none start (omega arith) (omega arith) i) (none-remaining (start + 1) n (λ place above below. none place (omega arith) (omega arith)) i))

  -- the first place in a range
  first-remaining : (start n : ℕ) (place : Place) (found : List Place) → start ≤ place → place < start + n → ((lower : Place) → start ≤ lower → lower < place → find test (remaining lower some) ≡ None)
      → find test (remaining place some) ≡ Some found → find test (after_each some start n) ≡ Some found
  first-remaining start zero place found above below none here = absurd (omega arith)
  first-remaining start (suc n) place found above below none here = elim (at_or_above start place above) as (λ _. find test (after_each some start (suc n)) ≡ Some found) [
    | inl at ↦
        find-append test (remaining start some) (after_each some (start + 1) n)
        ∙ ap (λ o. option_or o (find test (after_each some (start + 1) n))) (ap (λ p. find test (remaining p some)) at ∙ here)
    | inr later ↦
        find-append test (remaining start some) (after_each some (start + 1) n)
        ∙ (λ i. option_or (none start (omega arith) later i)
        (first-remaining (start + 1) n place found (omega arith) (omega arith) (λ lower a b. none lower (omega arith) b) here i))
  ]
    where
      at_or_above : (start place : ℕ) → start ≤ place → (start ≡ place) ⊎ (start < place)
      at_or_above start place above = grind arith

pub find-none : (sets : List KeyedRows) (test : List Place → Bool) → ((places : List Place) → in_range sets places ≡ true → test places ≡ false) → find test (places_of sets) ≡ None
find-none [] test none = ap (λ b. cond b (Some []) None) (none [] refl)
find-none (set ∷ sets) test none =
    none-remaining test (places_of sets) 0 (length set.rows) (λ place above below.
    find-remaining test (places_of sets) place
    ∙ ap (option_map (λ others. place ∷ others)) (find-none sets (λ others. test (place ∷ others)) (λ others within. none (place ∷ others) (in_front set sets place others (omega arith) within))))
  where
    in_front : (set : KeyedRows) (sets : List KeyedRows) (place : Place) (others : List Place) → place < length set.rows → in_range sets others ≡ true → in_range (set ∷ sets) (place ∷ others) ≡ true
    in_front set sets place others below within = let lower : nat_lt place (length set.rows) ≡ true = grind (arith, nat_tests) in λ i. lower i && within i

-- the statement is true of the places that come first
pub first-holds : (holds : List Place → Type 0) (places : List Place) → AreFirst holds places → holds places
first-holds holds [] first = first
first-holds holds (place ∷ places) first = first-holds (λ others. holds (place ∷ others)) places first.0

-- the first places for which a statement is true are the first that pass a test of it
pub find-first : (sets : List KeyedRows) (test : List Place → Bool) (holds : List Place → Type 0)
    → ((places : List Place) → holds places → in_range sets places ≡ true) → ((places : List Place) → holds places → test places ≡ true)
    → ((places : List Place) → in_range sets places ≡ true → test places ≡ true → holds places)
    → (places : List Place) → AreFirst holds places → find test (places_of sets) ≡ Some places
find-first [] test holds within so back [] first = ap (λ b. cond b (Some []) None) (so [] first)
find-first [] test holds within so back (place ∷ places) first = absurd (false≢true (within (place ∷ places) (first-holds holds (place ∷ places) first)))
find-first (set ∷ sets) test holds within so back [] first = absurd (false≢true (within [] first))
find-first (set ∷ sets) test holds within so back (place ∷ places) first =
    let here = within (place ∷ places) (first-holds holds (place ∷ places) first) in
    let below : nat_lt place (length set.rows) ≡ true = (and_parts (nat_lt place (length set.rows)) (in_range sets places) here).0 in
    let lower_than : place < length set.rows = ltb-true _ _ below in
    first-remaining test (places_of sets) 0 (length set.rows) place (place ∷ places) (omega arith) (omega arith)
    (λ lower above less.
    find-remaining test (places_of sets) lower
    ∙ ap (option_map (λ others. lower ∷ others)) (find-none sets (λ others. test (lower ∷ others)) (λ others in_others.
    not_so (test (lower ∷ others)) (λ passes. first.1 lower less others (back (lower ∷ others) (in_front lower others (omega arith) in_others) passes)))))
    (find-remaining test (places_of sets) place
    ∙ ap (option_map (λ others. place ∷ others)) (find-first sets (λ others. test (place ∷ others)) (λ others. holds (place ∷ others))
    (λ others held. (and_parts (nat_lt place (length set.rows)) (in_range sets others) (within (place ∷ others) held)).1)
    (λ others. so (place ∷ others))
    (λ others in_others. back (place ∷ others) (in_front place others lower_than in_others))
    places first.0))
  where
    in_front : (p : Place) (others : List Place) → p < length set.rows → in_range sets others ≡ true → in_range (set ∷ sets) (p ∷ others) ≡ true
    in_front p others below within = let lower : nat_lt p (length set.rows) ≡ true = grind (arith, nat_tests) in λ i. lower i && within i

    not_so : (b : Bool) → ¬ (b ≡ true) → b ≡ false
    not_so true wrong = absurd (wrong refl)
    not_so false wrong = refl
