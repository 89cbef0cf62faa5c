-- The longest prefix of a list whose members pass a test.
use Rattle.std.proofs.Common.{◌≡◌, ℕ, Bool, true, false, List, [], ◌∷◌, ◌++◌, length, take, drop, refl, inl, inr, one-add}
use Rattle.std.specs.List.{prefix_len, list_all}
use Rattle.std.proofs.lemmas.Bool.{cases_Bool, and_parts}
use Rattle.hippo_lexer.specs.Spelling.{begins_with}

-- its members pass
pub all-front : (test : ℕ → Bool) (bytes : List ℕ) → list_all test (take (prefix_len test bytes) bytes) ≡ true
all-front test [] = refl
all-front test (byte ∷ rest) = elim (cases_Bool (test byte)) [
  | inl passed ↦ rw (passed, one-add, passed) (all-front test rest)
  | inr failed ↦ rw failed refl
]

-- the rest does not begin with a member that passes
pub ends-front : (test : ℕ → Bool) (bytes : List ℕ) → begins_with test (drop (prefix_len test bytes) bytes) ≡ false
ends-front test [] = refl
ends-front test (byte ∷ rest) = elim (cases_Bool (test byte)) [
  | inl passed ↦ rw (passed, one-add) (ends-front test rest)
  | inr failed ↦ rw (failed, failed) refl
]

-- such a prefix is the longest one
pub len-front : (test : ℕ → Bool) (front rest : List ℕ) → list_all test front ≡ true → begins_with test rest ≡ false → prefix_len test (front ++ rest) ≡ length front
len-front test [] [] passes ends = refl
len-front test [] (byte ∷ rest) passes ends = rw ends refl
len-front test (byte ∷ front) rest passes ends =
    let parts = and_parts (test byte) (list_all test front) passes in
    rw (parts.0, len-front test front rest parts.1 ends, one-add) refl
