-- A lower-case letter equals a byte with the lower-case bit set exactly when it equals the byte in
-- lower case.
use Rattle.std.proofs.Common.{◌≡◌, ℕ, ◌<◌, ◌≤◌, ◌==◌, Bool, true, List, [], ◌∷◌, map, take, drop, length, bit_or, if◌then◌else◌, refl, sym, ap, ◌∙◌, inl, inr, arith, zero-add, zero, suc, bytes_eq}
use Rattle.std.specs.List.{list_all, zip, range_with_len}
use Rattle.std.specs.Char.{is_ascii_alphabetic, is_ascii_lowercase, to_ascii_lowercase}
use Rattle.std.proofs.Math.ListN.{get_or}
use Rattle.std.proofs.lemmas.Bool.{cases_Bool, cases_lt, and_parts}
use Rattle.std.proofs.lemmas.Bool.Decides.{nat_tests}
use Rattle.std.proofs.lemmas.Nat.{le_or_l}
use Rattle.std.proofs.lemmas.List.FromFn.{get_or-map-range_with_len}
use Rattle.hippo_values.specs.Names.{lower_case}

-- a byte that is a lower-case letter, or 0
abbrev letter_or_0 : ℕ → ℕ
letter_or_0 byte = if is_ascii_lowercase byte then byte else 0

abbrev with_bit : ℕ → ℕ
with_bit byte = letter_or_0 (bit_or byte 32)

abbrev folded : ℕ → ℕ
folded byte = letter_or_0 (to_ascii_lowercase byte)

ascii_letters : map with_bit (range_with_len 0 128) ≡ map folded (range_with_len 0 128)
ascii_letters = refl

ascii_letter : (byte : ℕ) → byte < 128 → with_bit byte ≡ folded byte
ascii_letter byte small =
    sym (get_or-map-range_with_len with_bit 0 128 byte byte 0 small (zero-add byte))
    ∙ (ap (λ bytes. get_or bytes byte 0) ascii_letters ∙ get_or-map-range_with_len folded 0 128 byte byte 0 small (zero-add byte))

compared : (letter byte : ℕ) → is_ascii_lowercase letter ≡ true → (letter == byte) ≡ (letter == letter_or_0 byte)
compared letter byte small = elim (cases_Bool (is_ascii_lowercase byte)) [
  | inl is ↦ rw is refl
  | inr other ↦ rw other (grind (arith, nat_tests))
]

beyond : (letter byte : ℕ) → is_ascii_lowercase letter ≡ true → 128 ≤ byte → byte ≤ bit_or byte 32 → (letter == bit_or byte 32) ≡ (letter == to_ascii_lowercase byte)
beyond letter byte small large more = grind (arith, nat_tests)

written_letter : (letter byte : ℕ) → is_ascii_lowercase letter ≡ true → (letter == bit_or byte 32) ≡ (letter == to_ascii_lowercase byte)
written_letter letter byte small = elim (cases_lt byte 128) [
  | inl ascii ↦ compared letter (bit_or byte 32) small ∙ (ap (λ b. letter == b) (ascii_letter byte ascii) ∙ sym (compared letter (to_ascii_lowercase byte) small))
  | inr large ↦ beyond letter byte small large (le_or_l byte 32)
]

lower_case-letters : (letters : List ℕ) → list_all is_ascii_lowercase letters ≡ true → lower_case letters ≡ letters
lower_case-letters [] h = refl
lower_case-letters (letter ∷ letters) h =
    let parts = and_parts (is_ascii_lowercase letter) (list_all is_ascii_lowercase letters) h in
    let same : to_ascii_lowercase letter ≡ letter = grind (arith, nat_tests) in
    λ i. same i ∷ lower_case-letters letters parts.1 i

written_letters : (letters word : List ℕ) → list_all is_ascii_lowercase letters ≡ true → length letters ≡ length word → list_all (λ p. p.0 == bit_or p.1 32) (zip letters word) ≡ bytes_eq letters (lower_case word)
written_letters [] [] h long = refl
written_letters [] (byte ∷ word) h long = absurd (omega (arith, long))
written_letters (letter ∷ letters) [] h long = absurd (omega (arith, long))
written_letters (letter ∷ letters) (byte ∷ word) h long =
    let parts = and_parts (is_ascii_lowercase letter) (list_all is_ascii_lowercase letters) h in
    let same : length letters ≡ length word = omega (arith, long) in
    rw (written_letter letter byte parts.0, written_letters letters word parts.1 same) refl

-- A word of the same length equals the known word if each letter matches.
pub written : (known word : List ℕ) → list_all is_ascii_lowercase known ≡ true → length known ≡ length word → list_all (λ p. p.0 == bit_or p.1 32) (zip known word) ≡ bytes_eq (lower_case known) (lower_case word)
written known word h long = rw (lower_case-letters known h) (written_letters known word h long)

-- A letter with the bit set is the letter in lower case.
pub letter_lowered : (byte : ℕ) → is_ascii_alphabetic byte ≡ true → bit_or byte 32 ≡ to_ascii_lowercase byte
letter_lowered byte letter =
    let small : is_ascii_lowercase (to_ascii_lowercase byte) ≡ true = grind (arith, nat_tests) in
    let itself : (to_ascii_lowercase byte == to_ascii_lowercase byte) ≡ true = grind (arith, nat_tests) in
    let same : (to_ascii_lowercase byte == bit_or byte 32) ≡ true = written_letter (to_ascii_lowercase byte) byte small ∙ itself in
    grind (arith, nat_tests)

-- What holds for all members holds for all members of a suffix.
all-drop : {X : Type 0} (test : X → Bool) (count : ℕ) (members : List X) → list_all test members ≡ true → list_all test (drop count members) ≡ true
all-drop test zero members h = h
all-drop test (suc count) [] h = refl
all-drop test (suc count) (member ∷ members) h = all-drop test count members (and_parts (test member) (list_all test members) h).1

all-take : {X : Type 0} (test : X → Bool) (count : ℕ) (members : List X) → list_all test members ≡ true → list_all test (take count members) ≡ true
all-take test zero members h = refl
all-take test (suc count) [] h = refl
all-take test (suc count) (member ∷ members) h =
    let parts = and_parts (test member) (list_all test members) h in
    rw (parts.0, all-take test count members parts.1) refl

pub all-part : {X : Type 0} (test : X → Bool) (start count : ℕ) (members : List X) → list_all test members ≡ true → list_all test (take count (drop start members)) ≡ true
all-part test start count members h = all-take test count (drop start members) (all-drop test start members h)
