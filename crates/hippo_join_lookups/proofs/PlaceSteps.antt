-- General steps about lists of places and about results.
use Rattle.std.proofs.Common.{◌≡◌, ℕ, zero, suc, ◌+◌, ◌<◌, ◌⊎◌, List, [], ◌∷◌, ◌++◌, map, length, get_or, take, refl, sym, ap, ◌∙◌, arith}
use Rattle.std.specs.Prelude.{Result, Ok, Err, IfOk}
use Rattle.std.specs.List.{range_with_len}
use Rattle.std.specs.List.Sorted.{IsStrictlyIncreasing}
use Rattle.std.proofs.lemmas.List.{take_more}
use Rattle.std.proofs.lemmas.List.FromFn.{get_or-range_with_len, length-range_with_len}

pub below_or_at : (k n : ℕ) → k < n + 1 → (k < n) ⊎ (k ≡ n)
below_or_at k n lower = grind arith

pub get_or_default : (xs : List ℕ) (k d e : ℕ) → k < length xs → get_or xs k e ≡ get_or xs k d
get_or_default [] k d e within = absurd (omega arith)
get_or_default (x ∷ xs) zero d e within = refl
get_or_default (x ∷ xs) (suc k) d e within = get_or_default xs k d e (omega arith)

pub rises-range : (start n : ℕ) → IsStrictlyIncreasing (range_with_len start n)
rises-range start n k within =
    let short : k + 1 < n = omega (arith, within, length-range_with_len start n) in
    let here = get_or-range_with_len start n k 0 (omega (arith, short)) in
    let next = get_or-range_with_len start n (k + 1) 0 short in
    omega (arith, here, next)

pub map_push : {A B : Type 0} (f : A → B) (xs : List A) (x : A) → map f (xs ++ x ∷ []) ≡ map f xs ++ f x ∷ []
map_push f [] x = refl
map_push f (y ∷ xs) x = ap (λ l. f y ∷ l) (map_push f xs x)

-- one more row in an answer
pub map-more : {A B : Type 0} (f : A → B) (xs : List A) (i : ℕ) (made more : List B) (x here : A) (y : B) → made ≡ map f (take i xs) → i < length xs → x ≡ get_or xs i x → here ≡ x → y ≡ f here → more ≡ made ++ y ∷ [] → more ≡ map f (take (i + 1) xs)
map-more f xs i made more x here y so_far within at same is pushed =
    pushed ∙ (λ j. so_far j ++ is j ∷ []) ∙ sym (map_push f (take i xs) here) ∙ ap (map f) (ap (λ z. take i xs ++ z ∷ []) (same ∙ at) ∙ sym (take_more xs i x within))

pub ok-then : {T E : Type 0} (P Q : T → Type 0) (r : Result T E) → IfOk r P → ((x : T) → P x → Q x) → IfOk r Q
ok-then P Q (Ok x) p next = next x p
ok-then P Q (Err e) p next = tt
