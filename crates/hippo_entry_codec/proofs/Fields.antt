-- Reading returns what was written.
use Rattle.std.proofs.Common.{◌≡◌, ℕ, ◌<◌, ◌≤◌, ◌^◌, ℤ, Bool, true, false, ◌&&◌, List, [], ◌∷◌, ◌++◌, length, Option}
use Rattle.std.proofs.Common.{Some, refl, ap, ◌∙◌, append_assoc, arith}
use Rattle.std.specs.Prelude.{nat_lt, nat_le, bytes_eq}
use Rattle.std.specs.Int.{Width, w32, w64, byte_len, to_be_bytes, from_be_bytes, cast_unsigned, cast_signed}
use Rattle.std.specs.Int.RustNames.{FitsSigned}
use Rattle.std.specs.List.{list_all, flat_map}
use Rattle.std.specs.Str.{IsAscii, is_utf8}
use Rattle.std.proofs.lemmas.Bool.{and_parts, leb-true, le-ltb}
use Rattle.std.proofs.lemmas.Bool.Decides.{nat_tests}
use Rattle.std.proofs.lemmas.Int.{to_z-of_z, ints}
use Rattle.std.proofs.lemmas.List.{take_at, drop_at, length-append}
use Rattle.std.proofs.lemmas.List.Concat.{flat_map-cons}
use Rattle.std.proofs.lemmas.Nat.{from_be_bytes-to_be_bytes_4, from_be_bytes-to_be_bytes_8}
use Rattle.std.proofs.lemmas.Slice.Eq.{bytes_eq-Decides}
use Rattle.std.proofs.lemmas.Str.{is_utf8-from_IsUtf8, IsUtf8-from_ascii}
use Rattle.std.proofs.lemmas.Str.Ascii.{IsAscii-nil, IsAscii-cons}
use Rattle.hippo_values.specs.declared.names.Name.{Name}
use Rattle.hippo_values.specs.Names.{lower_case, is_word_byte, begins_with_letter, is_word, is_name}
use Rattle.hippo_values.specs.Options.{◌>>=◌}
use Rattle.hippo_model.specs.StoredForms.{name_bytes, text_bytes, list_bytes}
use Rattle.hippo_model.specs.Keepable.{is_folded_name, is_text}
use Rattle.hippo_entry_codec.specs.Readings.{leading_bytes, leading_stored_number, leading_signed, leading_text, leading_stored_name}
use Rattle.hippo_entry_codec.specs.Readings.{leading_parts, leading_list}

-- if a part that fits was written, reading gives the part and the bytes after it
pub record ReadsAgain {A : Type 0} (reading : List ℕ → Option (A × List ℕ)) (fits : A → Bool)
    (write : A → List ℕ) : Type 0 where
  pub again : (x : A) (rest : List ℕ) → fits x ≡ true → reading (write x ++ rest) ≡ Some (x, rest)

-- ---- bytes and numbers

pub bytes_again : (count : ℕ) (front rest : List ℕ) → length front ≡ count
    → leading_bytes count (front ++ rest) ≡ Some (front, rest)
bytes_again count front rest same =
    let long : nat_lt (length (front ++ rest)) count ≡ false = le-ltb _ _ (omega (arith, length-append front rest)) in
    rw (long, take_at front rest count same, drop_at front rest count same) refl

pub number_again : (w : Width) (n : ℕ) (rest : List ℕ) → length (to_be_bytes w n) ≡ byte_len w
    → from_be_bytes w (to_be_bytes w n) ≡ n → leading_stored_number w (to_be_bytes w n ++ rest) ≡ Some (n, rest)
number_again w n rest len back =
    let front = bytes_again (byte_len w) (to_be_bytes w n) rest len in
    ap (λ (found : Option (List ℕ × List ℕ)). found >>= λ n. Some (from_be_bytes w n.0, n.1)) front
    ∙ ap (λ (m : ℕ). Some (m, rest)) back

pub short_again : (n : ℕ) (rest : List ℕ) → n < 2 ^ 32 → leading_stored_number w32 (to_be_bytes w32 n ++ rest) ≡ Some (n, rest)
short_again n rest lt = number_again w32 n rest refl (from_be_bytes-to_be_bytes_4 n lt)

pub long_again : (n : ℕ) (rest : List ℕ) → n < 2 ^ 64 → leading_stored_number w64 (to_be_bytes w64 n ++ rest) ≡ Some (n, rest)
long_again n rest lt = number_again w64 n rest refl (from_be_bytes-to_be_bytes_8 n lt)

unsigned64 : (x : ℤ) → FitsSigned w64 x → cast_unsigned w64 x < 2 ^ 64
unsigned64 x f = omega (arith, ints)

unsigned32 : (x : ℤ) → FitsSigned w32 x → cast_unsigned w32 x < 2 ^ 32
unsigned32 x f = omega (arith, ints)

-- a signed number, if reading returns its unsigned form
signed_of : (w : Width) (x : ℤ) (rest : List ℕ)
    → leading_stored_number w (to_be_bytes w (cast_unsigned w x) ++ rest) ≡ Some (cast_unsigned w x, rest)
    → cast_signed w (cast_unsigned w x) ≡ x
    → leading_signed w (to_be_bytes w (cast_unsigned w x) ++ rest) ≡ Some (x, rest)
signed_of w x rest again same =
    ap (λ (found : Option (ℕ × List ℕ)). found >>= λ n. Some (cast_signed w n.0, n.1)) again
    ∙ ap (λ (y : ℤ). Some (y, rest)) same

pub signed_again : (x : ℤ) (rest : List ℕ) → FitsSigned w64 x
    → leading_signed w64 (to_be_bytes w64 (cast_unsigned w64 x) ++ rest) ≡ Some (x, rest)
signed_again x rest fits =
    signed_of w64 x rest (long_again (cast_unsigned w64 x) rest (unsigned64 x fits)) (to_z-of_z w64 x fits)

pub short_signed_again : (x : ℤ) (rest : List ℕ) → FitsSigned w32 x
    → leading_signed w32 (to_be_bytes w32 (cast_unsigned w32 x) ++ rest) ≡ Some (x, rest)
short_signed_again x rest fits =
    signed_of w32 x rest (short_again (cast_unsigned w32 x) rest (unsigned32 x fits)) (to_z-of_z w32 x fits)

-- ---- texts and names

pub text_again : (limit : ℕ) (text rest : List ℕ) → limit < 2 ^ 32 → is_text limit text ≡ true
    → leading_text (text_bytes text ++ rest) ≡ Some (text, rest)
unfolding leading_text
text_again limit text rest below fits =
    let parts = and_parts (nat_le (length text) limit) (is_utf8 text) fits in
    let within : length text ≤ limit = leb-true (length text) limit parts.0 in
    let count = short_again (length text) (text ++ rest) (omega arith) in
    ap leading_text (append_assoc (to_be_bytes w32 (length text)) text rest)
    ∙ rw (count, bytes_again (length text) text rest refl, parts.1) refl

are_ascii : (bytes : List ℕ) → list_all is_word_byte bytes ≡ true → IsAscii bytes
are_ascii [] holds = IsAscii-nil
are_ascii (b ∷ bytes) holds =
    let parts = and_parts (is_word_byte b) (list_all is_word_byte bytes) holds in
    let below : b < 128 = grind (arith, nat_tests, parts.0) in
    IsAscii-cons b bytes below (are_ascii bytes parts.1)

name_is_utf8 : (name : Name) → is_name name ≡ true → is_utf8 name ≡ true
name_is_utf8 name holds =
    let parts = and_parts (is_word name && nat_le (length name) 63) _ holds in
    let word = and_parts (is_word name) (nat_le (length name) 63) parts.0 in
    let letters = and_parts (begins_with_letter name) (list_all is_word_byte name) word.0 in
    is_utf8-from_IsUtf8 name (IsUtf8-from_ascii name (are_ascii name letters.1))

pub name_again : (name : Name) (rest : List ℕ) → is_folded_name name ≡ true
    → leading_stored_name (name_bytes name ++ rest) ≡ Some (name, rest)
unfolding leading_stored_name
name_again name rest fits =
    let parts = and_parts (is_name name) (bytes_eq (lower_case name) name) fits in
    let same : lower_case name ≡ name = (bytes_eq-Decides (lower_case name) name).0 parts.1 in
    rw (bytes_again (length name) name rest refl, name_is_utf8 name parts.0, parts.0, same) refl

pub a_name : ReadsAgain leading_stored_name is_folded_name name_bytes
a_name = record { again = name_again }

-- ---- lists

module _ {A : Type 0} {reading : List ℕ → Option (A × List ℕ)} {fits : A → Bool} {write : A → List ℕ}
    (part : ReadsAgain reading fits write) where
  parts_again : (xs : List A) (rest : List ℕ) → list_all fits xs ≡ true
      → leading_parts reading (length xs) (flat_map write xs ++ rest) ≡ Some (xs, rest)
  parts_again [] rest holds = refl
  parts_again (x ∷ xs) rest holds =
      let both = and_parts (fits x) (list_all fits xs) holds in
      let regrouped : flat_map write (x ∷ xs) ++ rest ≡ write x ++ (flat_map write xs ++ rest) =
      ap (λ (bytes : List ℕ). bytes ++ rest) (flat_map-cons write x xs)
      ∙ append_assoc (write x) (flat_map write xs) rest in
      ap (leading_parts reading (length (x ∷ xs))) regrouped
      ∙ rw (part.again x (flat_map write xs ++ rest) both.0, parts_again xs rest both.1) refl

  pub list_again : (xs : List A) (rest : List ℕ) → list_all fits xs ≡ true
      → leading_list reading (list_bytes write xs ++ rest) ≡ Some (xs, rest)
  unfolding leading_list
  list_again xs rest holds = parts_again xs rest holds
