-- The first byte that passes a test, as found by a byte search.
use Rattle.std.proofs.Common.{◌≡◌, ◌∙◌, ℕ, Bool, true, false, List, length, Option, Some, None, cond, ltb, refl, sym, arith}
use Rattle.std.proofs.Math.ListN.{get_or}
use Rattle.std.specs.List.{position, position_or_len}
use Rattle.std.proofs.lemmas.Bool.{false_from_ne_true}
use Rattle.std.proofs.lemmas.Bool.Decides.{nat_tests}
use Rattle.std.proofs.lemmas.List.Sums.{position_or_len_is}
use Rattle.memchr.specs.Find.{IsFirstByte}

shown : (test : ℕ → Bool) (bytes : List ℕ) (place : ℕ) → position_or_len test bytes ≡ place → position test bytes ≡ cond (ltb place (length bytes)) (Some place) None
shown test bytes place is = rw is refl

-- it is the index of the first one
pub first_byte : (test : ℕ → Bool) (bytes : List ℕ) (found : Option ℕ) → IsFirstByte test bytes found → found ≡ position test bytes
first_byte test bytes None nowhere =
    let is = position_or_len_is test bytes (length bytes) 0 (omega arith) (λ k below. false_from_ne_true (test (get_or bytes k 0)) (nowhere k (omega arith) below)) (λ inside. absurd (omega arith)) in
    let outside : ltb (length bytes) (length bytes) ≡ false = grind (arith, nat_tests) in
    sym (shown test bytes (length bytes) is ∙ rw outside refl)
first_byte test bytes (Some place) first =
    let is = position_or_len_is test bytes place 0 (omega (arith, first.0.high)) (λ k below. false_from_ne_true (test (get_or bytes k 0)) (first.0.before k (omega arith) below)) (λ inside. first.1) in
    let inside : ltb place (length bytes) ≡ true = grind (arith, nat_tests, first.0.high) in
    sym (shown test bytes place is ∙ rw inside refl)
