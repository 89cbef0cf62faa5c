-- The front of a text: where the text may be split, and what its bytes are.
use Rattle.std.proofs.Common.{leb, ◌≡◌, ℕ, zero, suc, ◌+◌, ◌-◌, ◌<◌, ◌≤◌, Bool, true, List, [], ◌∷◌, length, take, get_or, inl, inr, refl, arith, zero-add}
use Rattle.std.specs.Prelude.{IsUtf8, IsCharBoundary}
use Rattle.std.specs.List.{prefix_len, list_all}
use Rattle.std.specs.Char.{is_ascii_digit}
use Rattle.std.proofs.lemmas.Bool.{cases_Bool, eqb-true, and_parts, leb-true}
use Rattle.std.proofs.lemmas.Bool.Decides.{nat_tests}
use Rattle.std.proofs.lemmas.List.Folds.{length-prefix_len}
use Rattle.std.proofs.lemmas.List.Sums.{prefix_len_passes, prefix_len-le-length}
use Rattle.std.proofs.lemmas.Str.{IsCharBoundary-start, IsCharBoundary-after_ascii}
use Rattle.hippo_values.specs.Names.{is_word_byte}
use Rattle.hippo_lexer.specs.Spelling.{is_blank, is_minus}
use Rattle.hippo_lexer.specs.Cutting.{word_len, digits_len, blanks_len, sign_len, number_len, IsNumeral}

-- a text may be split after ASCII bytes
pub boundary-ascii : (bytes : List ℕ) (n : ℕ) → IsUtf8 bytes → n ≤ length bytes → (0 < n → get_or bytes (n - 1) 0 < 128) → IsCharBoundary bytes n
boundary-ascii bytes zero utf8 small ascii = IsCharBoundary-start bytes utf8
boundary-ascii bytes (suc n) utf8 small ascii =
    let last : suc n - 1 ≡ n = omega arith in
    let next : n + 1 ≡ suc n = omega arith in
    rw next at (IsCharBoundary-after_ascii bytes n utf8 (omega arith) (rw last at (ascii (omega arith))))

pub small_digit : (byte : ℕ) → is_ascii_digit byte ≡ true → byte < 128
small_digit byte h = let high : byte ≤ 57 = leb-true byte 57 (and_parts (leb 48 byte) (leb byte 57) h).1 in omega arith

pub small_word_byte : (byte : ℕ) → is_word_byte byte ≡ true → byte < 128
small_word_byte byte h = grind (arith, nat_tests)

pub small_blank : (byte : ℕ) → is_blank byte ≡ true → byte < 128
small_blank byte h = grind (arith, nat_tests)

-- a text may be split after the ASCII bytes that pass a test
boundary-prefix : (test : ℕ → Bool) → ((byte : ℕ) → test byte ≡ true → byte < 128) → (bytes : List ℕ) → IsUtf8 bytes → IsCharBoundary bytes (prefix_len test bytes)
boundary-prefix test small bytes utf8 =
    boundary-ascii bytes (prefix_len test bytes) utf8 (prefix_len-le-length test bytes)
    (λ some. small _ (prefix_len_passes test bytes (prefix_len test bytes - 1) 0 (omega arith)))

pub boundary-word : (bytes : List ℕ) → IsUtf8 bytes → IsCharBoundary bytes (word_len bytes)
boundary-word = boundary-prefix is_word_byte small_word_byte

pub boundary-blanks : (bytes : List ℕ) → IsUtf8 bytes → IsCharBoundary bytes (blanks_len bytes)
boundary-blanks = boundary-prefix is_blank small_blank

all_digits-front : (bytes : List ℕ) → list_all is_ascii_digit (take (digits_len bytes) bytes) ≡ true
all_digits-front [] = refl
all_digits-front (byte ∷ rest) = elim (cases_Bool (is_ascii_digit byte)) [
  | inl digit ↦
      let count : 1 + digits_len rest ≡ suc (digits_len rest) = omega arith in
      rw (digit, count, digit) (all_digits-front rest)
  | inr other ↦ rw other refl
]

-- the bytes of a `-` and of digits are ASCII
last_small : (byte : ℕ) (rest : List ℕ) (n : ℕ) → byte ≡ 45 → n ≤ digits_len rest → get_or (byte ∷ rest) n 0 < 128
last_small byte rest zero dash within = omega arith
last_small byte rest (suc n) dash within = small_digit _ (prefix_len_passes is_ascii_digit rest n 0 (omega arith))

pub boundary-number : (bytes : List ℕ) → IsUtf8 bytes → IsCharBoundary bytes (number_len bytes)
boundary-number [] utf8 = IsCharBoundary-start [] utf8
boundary-number (byte ∷ rest) utf8 = elim (cases_Bool (is_minus byte)) [
  | inl minus ↦
      let within : digits_len rest ≤ length rest = prefix_len-le-length is_ascii_digit rest in
      let last : 1 + digits_len rest - 1 ≡ digits_len rest = omega arith in
      let small : get_or (byte ∷ rest) (digits_len rest) 0 < 128 = last_small byte rest (digits_len rest) (eqb-true byte 45 minus) (omega arith) in
      rw minus (boundary-ascii (byte ∷ rest) (1 + digits_len rest) utf8 (omega arith) (λ some. rw last small))
  | inr other ↦ rw (other, zero-add) (boundary-prefix is_ascii_digit small_digit (byte ∷ rest) utf8)
]

pub IsNumeral-number : (bytes : List ℕ) → sign_len bytes < number_len bytes → IsNumeral (take (number_len bytes) bytes)
IsNumeral-number [] some = absurd (omega arith)
IsNumeral-number (byte ∷ rest) some = elim (cases_Bool (is_minus byte)) [
  | inl minus ↦
      let len : number_len (byte ∷ rest) ≡ suc (digits_len rest) = rw minus (omega arith) in
      let sign : sign_len (byte ∷ rest) ≡ 1 = rw minus refl in
      let taken : length (take (digits_len rest) rest) ≡ digits_len rest = length-prefix_len is_ascii_digit rest in
      rw (len, minus) (omega arith, all_digits-front rest)
  | inr other ↦
      let len : number_len (byte ∷ rest) ≡ digits_len (byte ∷ rest) = rw (other, zero-add) refl in
      elim (cases_Bool (is_ascii_digit byte)) [
        | inl digit ↦
            let count : digits_len (byte ∷ rest) ≡ suc (digits_len rest) = rw digit (omega arith) in
            rw (len, count, other) (omega arith, rw digit (all_digits-front rest))
        | inr none ↦
            let count : digits_len (byte ∷ rest) ≡ 0 = rw none refl in
            absurd (omega arith)
      ]
]
