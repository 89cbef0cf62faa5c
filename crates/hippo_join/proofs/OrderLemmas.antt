-- Consecutive numbers, and their orders.
use Rattle.std.proofs.Common.{◌≡◌, ℕ, zero, suc, ◌+◌, ◌<◌, ◌≤◌, List, [], ◌∷◌, ◌++◌, length, take, refl, sym, ap, subst, ◌∙◌, arith, add-one, get_or}
use Rattle.std.specs.List.{range_with_len, remove}
use Rattle.std.specs.List.Sorted.{IsPermutation}
use Rattle.std.proofs.lemmas.List.{take-append-le, take_all, take_more}
use Rattle.std.proofs.lemmas.List.Sorted.{IsPermutation-more}

range_from : (a n : ℕ) → range_with_len a (suc n) ≡ range_with_len a n ++ (a + n) ∷ []
range_from a zero = let e : a ≡ a + 0 = omega arith in ap (λ k. k ∷ []) e
range_from a (suc n) = let e : (a + 1) + n ≡ a + suc n = omega arith in ap (λ l. a ∷ l) (range_from (a + 1) n ∙ ap (λ k. range_with_len (a + 1) n ++ k ∷ []) e)

pub range-more : (n : ℕ) → range_with_len 0 (n + 1) ≡ range_with_len 0 n ++ n ∷ []
range-more n = let e : 0 + n ≡ n = omega arith in rw (add-one n) (range_from 0 n ∙ ap (λ k. range_with_len 0 n ++ k ∷ []) e)

-- one more number is at its own place
pub in_order_more : (tables : List ℕ) (place : ℕ) → place < length tables → get_or tables place 0 ≡ place → take place tables ≡ range_with_len 0 place → take (place + 1) tables ≡ range_with_len 0 (place + 1)
in_order_more tables place within own so_far =
    take_more tables place 0 within ∙ (λ i. so_far i ++ own i ∷ []) ∙ sym (range-more place)

-- one of the remaining tables comes next
pub ordered-more : (xs order left more less : List ℕ) (i x : ℕ) → i < length left → x ≡ get_or left i x → IsPermutation xs (order ++ left) → more ≡ order ++ x ∷ [] → less ≡ remove left i → IsPermutation xs (more ++ less)
ordered-more xs order left more less i x within is so_far pushed removed =
    subst (λ l. IsPermutation xs (l ++ less)) (sym pushed) (subst (λ l. IsPermutation xs ((order ++ x ∷ []) ++ l)) (sym removed) (IsPermutation-more xs order left i x within is so_far))

-- the first ones stay first
longer : (xs : List ℕ) (x : ℕ) → length (xs ++ x ∷ []) ≡ suc (length xs)
longer [] x = refl
longer (y ∷ xs) x = ap suc (longer xs x)

pub long-more : (n : ℕ) (order more : List ℕ) (x : ℕ) → more ≡ order ++ x ∷ [] → n ≤ length order → n ≤ length more
long-more n order more x pushed long = let more_is : length more ≡ suc (length order) = ap length pushed ∙ longer order x in omega (arith, more_is, long)

pub front-more : (first order more : List ℕ) (x : ℕ) → more ≡ order ++ x ∷ [] → length first ≤ length order → take (length first) order ≡ first → take (length first) more ≡ first
front-more first order more x pushed long front = ap (take (length first)) pushed ∙ take-append-le (length first) order (x ∷ []) long ∙ front

pub front-first : (first order : List ℕ) → order ≡ first → take (length first) order ≡ first
front-first first order same = ap (take (length first)) same ∙ take_all (length first) first (omega arith)

pub same-first : (first others order left : List ℕ) → order ≡ first → left ≡ others → IsPermutation (first ++ others) (order ++ left)
same-first first others order left a b = record { moves = []; below = tt; is = λ i. a i ++ b i }
