-- Few places in the only common table.
use Rattle.std.proofs.Common.{◌≡◌, ℕ, suc, ◌+◌, ◌<◌, ◌≤◌, List, [], ◌∷◌, ◌++◌, map, length, take, get_or, sym, ap, subst, ◌∙◌, Option, Some, None, inl, inr, arith}
use Rattle.std.specs.List.{All, Contains}
use Rattle.std.specs.List.Sorted.{IsNonDecreasing, IsPermutation}
use Rattle.std.proofs.lemmas.List.{take_more, take_all}
use Rattle.std.proofs.lemmas.List.Sorted.{Contains-permutation}
use Rattle.hippo_model.specs.Terms.{Place}
use Rattle.hippo_join_stages.specs.declared.sides.Side.{Side}
use Rattle.hippo_join_stages.specs.Stages.{Reaches}
use Rattle.hippo_join_stages.proofs.FindingLemmas.{first_or_later}
use Rattle.hippo_model.specs.Masking.{Choices}
use Rattle.hippo_audit_search.specs.FirstPlaces.{AreFirst, IsFirst, IsFirstAmong}
use Rattle.hippo_audit_search.specs.Searching.{AreFewOf}
use Rattle.hippo_audit_common.proofs.LoopLemmas.{map-push}

abbrev pub alone : Place → List Place
alone place = place ∷ []

-- ---- each place alone
pub singles-more : (xs : List Place) (i : ℕ) (one : List Place) (so_far more : List (List Place)) → i < length xs → one ≡ alone (get_or xs i 0) → more ≡ so_far ++ one ∷ [] → so_far ≡ map alone (take i xs) → more ≡ map alone (take (i + 1) xs)
singles-more xs i one so_far more within is pushed before =
    pushed ∙ (λ j. before j ++ is j ∷ []) ∙ sym (ap (map alone) (take_more xs i 0 within) ∙ map-push alone (take i xs) (get_or xs i 0))

pub singles-all : (xs : List Place) (i : ℕ) (so_far : List (List Place)) → length xs ≤ i → so_far ≡ map alone (take i xs) → so_far ≡ map alone xs
singles-all xs i so_far past before = before ∙ ap (map alone) (take_all i xs past)

-- ---- a side's few places
pub table-below : (tables : List Place) (table n : ℕ) → (length tables ≡ 1) × (table ≡ get_or tables 0 0) → All (λ (other : Place). other < n) tables → table < n
table-below tables table n only below = subst (λ (t : ℕ). t < n) (sym only.1) (below 0 0 (omega (arith, only.0)))

pub few-of : {C : Type 0} (choices : C → Choices) (side : Side C) (tables : List Place) (table : ℕ) (some here sorted : List Place) → (length tables ≡ 1) × (table ≡ get_or tables 0 0)
    → Reaches (choices side.choices.now) side.query.now side.sets.now table some → here ≡ some → IsPermutation here sorted → IsNonDecreasing sorted → AreFewOf choices side tables sorted
few-of choices side tables table some here sorted only reaches same moved rises = record {
  one = only.0;
  rises = rises;
  reaches = λ places counts place at.
      let reach : Reaches (choices side.choices.now) side.query.now side.sets.now (get_or tables 0 0) some =
      subst (λ (t : ℕ). Reaches (choices side.choices.now) side.query.now side.sets.now t some) only.1 reaches in
      Contains-permutation here sorted place moved (subst (λ (l : List Place). Contains l place) (sym same) (reach places counts place at));
}

-- ---- the first of these places
module _ (holds : List Place → Type 0) where
  abbrev AllAmong : List Place → Type 0
  AllAmong few = (given : List Place) → holds given → (place : Place) × (given ≡ place ∷ []) × Contains few place

  abbrev first_of : List Place → Place
  first_of [] = 0
  first_of (x ∷ xs) = x

  later_rises : (x : Place) (few : List Place) → IsNonDecreasing (x ∷ few) → IsNonDecreasing few
  later_rises x few rises = λ i j d up within. rises (suc i) (suc j) d (omega (arith, up)) (omega (arith, within))

  -- if it is not true of the first place, one of the others is next
  left_among : (x : Place) (few : List Place) → AllAmong (x ∷ few) → ¬ holds (alone x) → AllAmong few
  left_among x few all wrong given held =
      let found = all given held in (
        found.0,
        found.1,
        elim (first_or_later x few found.0 found.2) as (λ _. Contains few found.0) [
          | inl here ↦ absurd (wrong (subst holds (found.1 ∙ sym (ap alone here)) held))
          | inr later ↦ later
        ],
      )

  least_first : (x : Place) (few : List Place) → IsNonDecreasing (x ∷ few) → AllAmong (x ∷ few) → holds (alone x) → AreFirst holds (alone x)
  least_first x few rises all held = (
    held,
    λ lower less others h.
        let found = all (lower ∷ others) h in
        let same : lower ≡ found.0 = ap first_of found.1 in
        let up : x ≤ get_or (x ∷ few) found.2.0 found.0 = rises 0 found.2.0 found.0 (omega arith) found.2.1 in
        absurd (omega (arith, less, same, up, found.2.2)),
  )

  pub few-first : (few : List Place) → IsNonDecreasing few → AllAmong few → (found : Option (List Place)) → IsFirstAmong holds (map alone few) found → IsFirst holds found
  few-first [] rises all None first = λ given held. let found = all given held in omega (arith, found.2.1)
  few-first [] rises all (Some places) first = absurd first
  few-first (x ∷ few) rises all None first = few-first few (later_rises x few rises) (left_among x few all first.0) None first.1
  few-first (x ∷ few) rises all (Some places) (inl is) = subst (AreFirst holds) is.0 (least_first x few rises all is.1)
  few-first (x ∷ few) rises all (Some places) (inr other) = few-first few (later_rises x few rises) (left_among x few all other.0) (Some places) other.1
