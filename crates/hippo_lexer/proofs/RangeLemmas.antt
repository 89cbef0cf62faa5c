-- A test of the numbers below a bound.
use Rattle.std.proofs.Common.{◌≡◌, ℕ, zero, suc, ◌+◌, ◌<◌, Bool, true, false, refl, arith, add-zero}
use Rattle.std.specs.List.{list_any, range_with_len}
use Rattle.std.proofs.lemmas.Bool.{or_from, or_left, or_right}

-- some number from `low` on passes
pub list_any-range_true : (test : ℕ → Bool) (low n k : ℕ) → k < n → test (low + k) ≡ true → list_any test (range_with_len low n) ≡ true
list_any-range_true test low zero k small h = absurd (omega arith)
list_any-range_true test low (suc n) zero small h = or_left (test low) _ (rw add-zero at h)
list_any-range_true test low (suc n) (suc k) small h =
    let same : low + suc k ≡ low + 1 + k = omega arith in
    or_right (test low) _ (list_any-range_true test (low + 1) n k (omega arith) (rw same at h))

-- none passes
pub list_any-range_false : (test : ℕ → Bool) (low n : ℕ) → ((k : ℕ) → k < n → test (low + k) ≡ false) → list_any test (range_with_len low n) ≡ false
list_any-range_false test low zero h = refl
list_any-range_false test low (suc n) h =
    let first : test (low + 0) ≡ false = h 0 (omega arith) in
    or_from (test low) _ (rw add-zero at first)
    (list_any-range_false test (low + 1) n (λ k small.
    let same : low + suc k ≡ low + 1 + k = omega arith in
    let next : test (low + suc k) ≡ false = h (suc k) (omega arith) in
    rw same at next))
