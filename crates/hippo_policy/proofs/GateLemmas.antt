-- One more column: the values of a function over a range of places, and the front parts of their
-- list.
use Rattle.std.proofs.Common.{◌≡◌, ◌∙◌, refl, ap, arith, ℕ, zero, suc, ◌+◌, ◌<◌, List, [], ◌∷◌, ◌++◌, take, map}
use Rattle.std.proofs.lemmas.List.FromFn.{take-map-range_with_len}
use Rattle.std.specs.List.{range_with_len}

module _ {X : Type 0} (f : ℕ → X) where
  range_more : (a n : ℕ) → map f (range_with_len a n) ++ f (a + n) ∷ [] ≡ map f (range_with_len a (suc n))
  range_more a zero = let e : a + 0 ≡ a = omega arith in rw e refl
  range_more a (suc n) = let e : a + suc n ≡ a + 1 + n = omega arith in rw e (ap (λ (rest : List X). f a ∷ rest) (range_more (a + 1) n))

  pub take_more : (n place : ℕ) → place < n → take place (map f (range_with_len 0 n)) ++ f place ∷ [] ≡ take (place + 1) (map f (range_with_len 0 n))
  take_more n place short =
      let e : place + 1 ≡ suc place = omega arith in
      let z : place ≡ 0 + place = omega arith in
      rw (e, take-map-range_with_len f 0 n place (omega arith), take-map-range_with_len f 0 n (suc place) (omega arith)) (ap (λ (k : ℕ). map f (range_with_len 0 place) ++ f k ∷ []) z ∙ range_more 0 place)

  pub take_whole : (n place : ℕ) → place ≡ n → take place (map f (range_with_len 0 n)) ≡ map f (range_with_len 0 n)
  take_whole n place is = rw is (take-map-range_with_len f 0 n n (omega arith))
