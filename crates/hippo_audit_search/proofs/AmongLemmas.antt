-- The first of some places for which a statement is true.
use Rattle.std.proofs.Common.{◌≡◌, ℕ, zero, suc, ◌+◌, ◌<◌, ◌≤◌, Bool, true, false, cond, ◌&&◌, ◌||◌, List, [], ◌∷◌, length, drop, get_or, refl, sym, ap, subst, ◌∙◌, Option, Some, None, inl, inr, add-one, Result, Ok, Err, option_map, Vec, Global}
use Rattle.std.specs.Prelude.{slice_get, filter, find, IfOk}
use Rattle.std.specs.Ordering.{is_eq, nat_cmp}
use Rattle.std.specs.Cmp.{eq_by_cmp_equiv}
use Rattle.std.specs.Cmp.Lexicographic.{slice_cmp}
use Rattle.std.proofs.lemmas.Bool.{false≢true}
use Rattle.std.proofs.lemmas.Cmp.{nat_list_cmp_total}
use Rattle.std.proofs.lemmas.List.{drop_all}
use Rattle.std.proofs.lemmas.Option.{slice_get_read}
use Rattle.std.proofs.lemmas.List.Kept.{IsStrictlySortedBy-filter}
use Rattle.std.proofs.Math.Bool.{or-true}
use Rattle.hippo_values.specs.declared.memory.Memory.{Memory}
use Rattle.hippo_model.specs.Terms.{Place}
use Rattle.hippo_tables_keyed.specs.RowSets.{KeyedRows}
use Rattle.hippo_join_stages.specs.Finding.{has_places, IsRising}
use Rattle.hippo_join.specs.Existence.{Decides}
use Rattle.hippo_join_lookups.specs.Places.{in_range, places_of}
use Rattle.hippo_join_stages.proofs.FoundLemmas.{has-filter, same_rising}
use Rattle.hippo_join_stages.proofs.ProductLemmas.{has-places_of, rising-places_of}
use Rattle.hippo_audit_search.specs.FirstPlaces.{IsFirstAmong}

-- ---- the first of a list
pub find-filter : {A : Type 0} (p q : A → Bool) (xs : List A) → find (λ x. p x && q x) xs ≡ find q (filter p xs)
find-filter p q [] = refl
find-filter p q (x ∷ xs) = by (p x) (filter p xs) (find-filter p q xs)
  where
    by : (b : Bool) (rest : List _) → find (λ x. p x && q x) xs ≡ find q rest → cond (b && q x) (Some x) (find (λ x. p x && q x) xs) ≡ find q (cond b (x ∷ rest) rest)
    by true rest e = ap (cond (q x) (Some x)) e
    by false rest e = e

pub find-same : {A : Type 0} (p q : A → Bool) → ((x : A) → p x ≡ q x) → (xs : List A) → find p xs ≡ find q xs
find-same p q same [] = refl
find-same p q same (x ∷ xs) = λ i. cond (same x i) (Some x) (find-same p q same xs i)

pub and_grouped : (a b c : Bool) → ((a && b) && c) ≡ (a && (b && c))
and_grouped true b c = refl
and_grouped false b c = refl

-- ---- a list in ascending order
-- ascending places that are exactly those of a product that pass a test
pub those-of : (sets : List KeyedRows) (test : List Place → Bool) (candidates : List (List Place)) → IsRising candidates → ((places : List Place) → has_places places candidates ≡ (in_range sets places && test places))
    → candidates ≡ filter test (places_of sets)
those-of sets test candidates rising exact =
    same_rising candidates (filter test (places_of sets)) rising (IsStrictlySortedBy-filter (slice_cmp nat_cmp) test (places_of sets) (rising-places_of sets))
    (λ c. exact c ∙ ap (λ b. b && test c) (sym (has-places_of sets c)) ∙ sym (has-filter test c (places_of sets)))

-- ---- the first among some places is the first that a test finds
module _ (holds : List Place → Type 0) where
  abbrev Agrees : (List Place → Bool) → List Place → Type 0
  Agrees test places = (holds places → test places ≡ true) × (test places ≡ true → holds places)

  pub found-among : (test : List Place → Bool) (candidates : List (List Place)) → ((places : List Place) → has_places places candidates ≡ true → Agrees test places)
      → (found : Option (List Place)) → IsFirstAmong holds candidates found → find test candidates ≡ found
  found-among test [] agree None first = refl
  found-among test [] agree (Some places) first = absurd first
  found-among test (c ∷ candidates) agree found first = by (test c) refl (λ other. found-among test candidates later other) found first
    where
      here : Agrees test c
      here = agree c (ap (λ b. b || has_places c candidates) ((eq_by_cmp_equiv nat_list_cmp_total).refl c))

      later : (places : List Place) → has_places places candidates ≡ true → Agrees test places
      later places has = agree places (ap (λ b. is_eq (slice_cmp nat_cmp places c) || b) has ∙ or-true (is_eq (slice_cmp nat_cmp places c)))

      by : (passes : Bool) → test c ≡ passes → ((other : Option (List Place)) → IsFirstAmong holds candidates other → find test candidates ≡ other) → (found : Option (List Place)) → IsFirstAmong holds (c ∷ candidates) found → find test (c ∷ candidates) ≡ found
      by true e remaining None first = absurd (first.0 (here.1 e))
      by true e remaining (Some places) (inl is) = ap (λ b. cond b (Some c) (find test candidates)) e ∙ ap Some is.0
      by true e remaining (Some places) (inr other) = absurd (other.0 (here.1 e))
      by false e remaining None first = ap (λ b. cond b (Some c) (find test candidates)) e ∙ remaining None first.1
      by false e remaining (Some places) (inl is) = absurd (false≢true (sym e ∙ here.0 is.1))
      by false e remaining (Some places) (inr other) = ap (λ b. cond b (Some c) (find test candidates)) e ∙ remaining (Some places) other.1

  -- one more place for which it is not true
  pub one-not : (first : List Place) (rest : List (List Place)) (found : Option (List Place)) → ¬ holds first → IsFirstAmong holds rest found → IsFirstAmong holds (first ∷ rest) found
  one-not first rest None wrong later = (wrong, later)
  one-not first rest (Some places) wrong later = inr (wrong, later)

  -- it is true of the place that is found
  pub among-holds : (candidates : List (List Place)) (places : List Place) → IsFirstAmong holds candidates (Some places) → holds places
  among-holds [] places first = absurd first
  among-holds (c ∷ candidates) places (inl is) = subst holds is.0 is.1
  among-holds (c ∷ candidates) places (inr other) = among-holds candidates places other.1

  -- it is the one at a place, or a later one
  found-here : (candidates : List (List Place)) (i : ℕ) (places : List Place) → slice_get candidates i ≡ Some places → holds places → IsFirstAmong holds (drop i candidates) (Some places)
  found-here [] i places at held = absurd cc
  found-here (c ∷ candidates) zero places at held = inl (some_is at, subst holds (sym (some_is at)) held)
    where
      some_is : {A : Type 0} {a b : A} → Some a ≡ Some b → a ≡ b
      some_is e = cc
  found-here (c ∷ candidates) (suc i) places at held = found-here candidates i places at held

  found-remaining : (candidates : List (List Place)) (i : ℕ) (places : List Place) → slice_get candidates i ≡ Some places → ¬ holds places → (found : Option (List Place)) → IsFirstAmong holds (drop (suc i) candidates) found → IsFirstAmong holds (drop i candidates) found
  found-remaining [] i places at wrong found later = absurd cc
  found-remaining (c ∷ candidates) zero places at wrong found later = one-not c candidates found (λ held. wrong (subst holds (some_is at) held)) later
    where
      some_is : {A : Type 0} {a b : A} → Some a ≡ Some b → a ≡ b
      some_is e = cc
  found-remaining (c ∷ candidates) (suc i) places at wrong found later = found-remaining candidates i places at wrong found later

  -- a test of the next place decides
  pub found-at : (candidates : List (List Place)) (i : ℕ) (places these : List Place) → i < length candidates → places ≡ get_or candidates i places → these ≡ places
      → (has : Bool) → has ≡ true → Decides (holds these) (Ok has) → IsFirstAmong holds (drop i candidates) (Some places)
  found-at candidates i places these within is same false wrong decided = absurd (false≢true wrong)
  found-at candidates i places these within is same true e held = found-here candidates i places (slice_get_read candidates (length candidates) i places refl within is) (subst holds same held)

  pub passed-at : (candidates : List (List Place)) (i : ℕ) (places these : List Place) → i < length candidates → places ≡ get_or candidates i places → these ≡ places
      → (has : Bool) → has ≡ false → Decides (holds these) (Ok has) → (found : Option (List Place)) → IsFirstAmong holds (drop (i + 1) candidates) found → IsFirstAmong holds (drop i candidates) found
  passed-at candidates i places these within is same true wrong decided found later = absurd (false≢true (sym wrong))
  passed-at candidates i places these within is same false e none found later =
      found-remaining candidates i places (slice_get_read candidates (length candidates) i places refl within is) (λ held. none (subst holds (sym same) held)) found
      (subst (λ (n : ℕ). IsFirstAmong holds (drop n candidates) found) (add-one i) later)

  pub found-none : (candidates : List (List Place)) (i : ℕ) → length candidates ≤ i → IsFirstAmong holds (drop i candidates) None
  found-none candidates i past = subst (λ (l : List (List Place)). IsFirstAmong holds l None) (sym (drop_all i candidates past)) tt

-- the place that is found is copied
pub copied-first : (holds : List Place → Type 0) (candidates : List (List Place)) (found : Option (List Place)) (result : Result (Option (Vec ℕ Global)) Memory)
    → IfOk result (λ made. option_map (λ copy. copy.items) made ≡ found) → IsFirstAmong holds candidates found → IfOk result (λ made. IsFirstAmong holds candidates (option_map (λ copy. copy.items) made))
copied-first holds candidates found (Ok made) same first = subst (IsFirstAmong holds candidates) (sym same) first
copied-first holds candidates found (Err fault) same first = tt
