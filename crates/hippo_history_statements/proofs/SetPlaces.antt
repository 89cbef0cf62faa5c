-- One more column, which is set or belongs to the key.
use Rattle.std.proofs.Common.{◌≡◌, ◌∙◌, ℕ, zero, suc, ◌+◌, Bool, true, false, List, [], ◌∷◌, ◌++◌, filter, refl, ap, arith, inl, inr}
use Rattle.std.specs.List.{range_with_len}
use Rattle.std.proofs.lemmas.Bool.{cases_Bool}
use Rattle.std.proofs.lemmas.List.{append-nil}
use Rattle.hippo_model.specs.Terms.{Place}
use Rattle.hippo_history_statements.specs.Telling.{is_set}

range-more : (a n : ℕ) → range_with_len a (n + 1) ≡ range_with_len a n ++ (a + n) ∷ []
range-more a zero = let last : a ≡ a + 0 = omega arith in ap (λ (m : ℕ). m ∷ []) last
range-more a (suc n) =
    let size : suc n + 1 ≡ suc (n + 1) = omega arith in
    let last : a + 1 + n ≡ a + suc n = omega arith in
    rw size (ap (λ (rest : List ℕ). a ∷ rest) (range-more (a + 1) n ∙ ap (λ (m : ℕ). range_with_len (a + 1) n ++ m ∷ []) last))

filter-more : (test : ℕ → Bool) (places more : List ℕ) → filter test (places ++ more) ≡ filter test places ++ filter test more
filter-more test [] more = refl
filter-more test (place ∷ places) more = elim (cases_Bool (test place)) [
  | inl passed ↦ rw passed (ap (λ (rest : List ℕ). place ∷ rest) (filter-more test places more))
  | inr failed ↦ rw failed (filter-more test places more)
]

more : (key : List Place) (place : Place) → filter (is_set key) (range_with_len 0 (place + 1)) ≡ filter (is_set key) (range_with_len 0 place) ++ filter (is_set key) (place ∷ [])
more key place =
    let last : 0 + place ≡ place = omega arith in
    ap (filter (is_set key)) (range-more 0 place ∙ ap (λ (m : ℕ). range_with_len 0 place ++ m ∷ []) last)
    ∙ filter-more (is_set key) (range_with_len 0 place) (place ∷ [])

pub set_taken : (key : List Place) (place : Place) → is_set key place ≡ true → filter (is_set key) (range_with_len 0 (place + 1)) ≡ filter (is_set key) (range_with_len 0 place) ++ place ∷ []
set_taken key place is = more key place ∙ rw is refl

pub set_passed : (key : List Place) (place : Place) → is_set key place ≡ false → filter (is_set key) (range_with_len 0 (place + 1)) ≡ filter (is_set key) (range_with_len 0 place)
set_passed key place is = more key place ∙ (rw is (append-nil (filter (is_set key) (range_with_len 0 place))))
