-- The rest of two keys, one of which has ended.
use Rattle.std.proofs.Common.{◌≡◌, ℕ, zero, suc, min, List, [], ◌∷◌, length, drop, refl, arith}
use Rattle.std.specs.Ordering.{nat_cmp}
use Rattle.std.proofs.lemmas.Bool.Decides.{nat_tests}
use Rattle.hippo_values.specs.declared.values.Value.{Value}
use Rattle.hippo_values.specs.Order.{cells_cmp}
use Rattle.hippo_model.specs.Rows.{key_of}

-- keys that are equal up to the end of the shorter one are ordered by length
pub cells_cmp-past_end : (places : List ℕ) (row key : List Value) (n : ℕ) → n ≡ min (length places) (length key) → cells_cmp (key_of (drop n places) row) (drop n key) ≡ nat_cmp (length places) (length key)
cells_cmp-past_end [] row [] n e = rw e refl
cells_cmp-past_end [] row (value ∷ key) n e = rw e (grind (arith, nat_tests))
cells_cmp-past_end (place ∷ places) row [] n e = rw e (grind (arith, nat_tests))
cells_cmp-past_end (place ∷ places) row (value ∷ key) zero e = absurd (omega arith)
cells_cmp-past_end (place ∷ places) row (value ∷ key) (suc n) e = let shorter : n ≡ min (length places) (length key) = omega arith in rw (cells_cmp-past_end places row key n shorter) (grind (arith, nat_tests))
