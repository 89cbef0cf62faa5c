-- The member at a place of joined lists that are made from numbers.
use Rattle.std.proofs.Common.{◌≡◌, ℕ, zero, suc, ◌+◌, ◌*◌, ◌<◌, List, [], ◌∷◌, ◌++◌, map, drop, Option, Some, None, refl, sym, ap, arith}
use Rattle.std.specs.Prelude.{slice_get, unwrap_or}
use Rattle.std.specs.List.{flat_map, range_with_len}

-- in the first list, and after it
each_from : {A : Type 0} (f : ℕ → A) (rest : List A) (a n place j : ℕ) → place < n → a + place ≡ j
    → Some (f j) ≡ slice_get (map f (range_with_len a n) ++ rest) place
each_from f rest a zero place j within at = absurd (omega arith)
each_from f rest a (suc n) zero j within at = let same : a ≡ j = omega arith in ap (λ i. Some (f i)) (sym same)
each_from f rest a (suc n) (suc place) j within at = each_from f rest (a + 1) n place j (omega arith) (omega arith)

pub each : {A : Type 0} (f : ℕ → A) (rest : List A) (n place : ℕ) → place < n
    → Some (f (place + 1)) ≡ slice_get (map f (range_with_len 1 n) ++ rest) place
each f rest n place within = each_from f rest 1 n place (place + 1) within (omega arith)

after_from : {A : Type 0} (f : ℕ → A) (rest : List A) (a n place k : ℕ) → n + k ≡ place
    → slice_get rest k ≡ slice_get (map f (range_with_len a n) ++ rest) place
after_from f rest a zero place k at = let same : k ≡ place = omega arith in ap (slice_get rest) same
after_from f rest a (suc n) zero k at = absurd (omega arith)
after_from f rest a (suc n) (suc place) k at = after_from f rest (a + 1) n place k (omega arith)

pub remaining : {A : Type 0} (f : ℕ → A) (rest : List A) (n place k : ℕ) → n + k ≡ place
    → slice_get rest k ≡ slice_get (map f (range_with_len 1 n) ++ rest) place
remaining f rest n place k at = after_from f rest 1 n place k at

-- members that alternate
abbrev turns : {A : Type 0} → (ℕ → A) → (ℕ → A) → List ℕ → List A
turns f g numbers = flat_map (λ j. f j ∷ g j ∷ []) numbers

first_from : {A : Type 0} (f g : ℕ → A) (rest : List A) (a n turn place j : ℕ) → turn < n → 2 * turn ≡ place → a + turn ≡ j
    → Some (f j) ≡ slice_get (turns f g (range_with_len a n) ++ rest) place
first_from f g rest a zero turn place j within at is = absurd (omega arith)
first_from f g rest a (suc n) zero zero j within at is = let same : a ≡ j = omega arith in ap (λ i. Some (f i)) (sym same)
first_from f g rest a (suc n) zero (suc place) j within at is = absurd (omega arith)
first_from f g rest a (suc n) (suc turn) zero j within at is = absurd (omega arith)
first_from f g rest a (suc n) (suc turn) (suc zero) j within at is = absurd (omega arith)
first_from f g rest a (suc n) (suc turn) (suc (suc place)) j within at is =
    first_from f g rest (a + 1) n turn place j (omega arith) (omega arith) (omega arith)

second_from : {A : Type 0} (f g : ℕ → A) (rest : List A) (a n turn place j : ℕ) → turn < n → 2 * turn + 1 ≡ place → a + turn ≡ j
    → Some (g j) ≡ slice_get (turns f g (range_with_len a n) ++ rest) place
second_from f g rest a zero turn place j within at is = absurd (omega arith)
second_from f g rest a (suc n) zero zero j within at is = absurd (omega arith)
second_from f g rest a (suc n) zero (suc zero) j within at is = let same : a ≡ j = omega arith in ap (λ i. Some (g i)) (sym same)
second_from f g rest a (suc n) zero (suc (suc place)) j within at is = absurd (omega arith)
second_from f g rest a (suc n) (suc turn) zero j within at is = absurd (omega arith)
second_from f g rest a (suc n) (suc turn) (suc zero) j within at is = absurd (omega arith)
second_from f g rest a (suc n) (suc turn) (suc (suc place)) j within at is =
    second_from f g rest (a + 1) n turn place j (omega arith) (omega arith) (omega arith)

turns_after_from : {A : Type 0} (f g : ℕ → A) (rest : List A) (a n place k : ℕ) → 2 * n + k ≡ place
    → slice_get rest k ≡ slice_get (turns f g (range_with_len a n) ++ rest) place
turns_after_from f g rest a zero place k at = let same : k ≡ place = omega arith in ap (slice_get rest) same
turns_after_from f g rest a (suc n) zero k at = absurd (omega arith)
turns_after_from f g rest a (suc n) (suc zero) k at = absurd (omega arith)
turns_after_from f g rest a (suc n) (suc (suc place)) k at = turns_after_from f g rest (a + 1) n place k (omega arith)

pub first_of_turn : {A : Type 0} (f g : ℕ → A) (rest : List A) (n turn place : ℕ) → turn < n → 2 * turn ≡ place
    → Some (f (turn + 1)) ≡ slice_get (turns f g (range_with_len 1 n) ++ rest) place
first_of_turn f g rest n turn place within at = first_from f g rest 1 n turn place (turn + 1) within at (omega arith)

pub second_of_turn : {A : Type 0} (f g : ℕ → A) (rest : List A) (n turn place : ℕ) → turn < n → 2 * turn + 1 ≡ place
    → Some (g (turn + 1)) ≡ slice_get (turns f g (range_with_len 1 n) ++ rest) place
second_of_turn f g rest n turn place within at = second_from f g rest 1 n turn place (turn + 1) within at (omega arith)

pub after_turns : {A : Type 0} (f g : ℕ → A) (rest : List A) (n place k : ℕ) → 2 * n + k ≡ place
    → slice_get rest k ≡ slice_get (turns f g (range_with_len 1 n) ++ rest) place
after_turns f g rest n place k at = turns_after_from f g rest 1 n place k at

-- there is no member after the last
pub after_one : {A : Type 0} (x : A) (place : ℕ) → 0 < place → slice_get (x ∷ []) place ≡ None
after_one x zero some = absurd (omega arith)
after_one x (suc place) some = refl

-- what remains from a place on: that member and those after it, or nothing
pub left_more : {A : Type 0} (xs : List A) (place : ℕ) (x : A) → slice_get xs place ≡ Some x → drop place xs ≡ x ∷ drop (place + 1) xs
left_more [] place x found = absurd cc
left_more (y ∷ ys) zero x found = ap (λ (first : Option _). unwrap_or first x ∷ ys) found
left_more (y ∷ ys) (suc place) x found =
    let next : suc place + 1 ≡ suc (place + 1) = omega arith in rw next (left_more ys place x found)

pub left_none : {A : Type 0} (xs : List A) (place : ℕ) → slice_get xs place ≡ None → drop place xs ≡ []
left_none [] zero missing = refl
left_none [] (suc place) missing = refl
left_none (y ∷ ys) zero missing = absurd cc
left_none (y ∷ ys) (suc place) missing = left_none ys place missing
