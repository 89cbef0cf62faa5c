-- A name in lower case is still a name, and its bytes are ASCII.
use Rattle.std.proofs.Common.{◌≡◌, ℕ, zero, suc, ◌≤◌, List, [], ◌∷◌, ◌++◌, map, take, ◌&&◌, length, nat_le, Option, Some, None, option_map, true, if◌then◌else◌, refl, ap, arith, bytes_eq, IsTrue, ◌<◌}
use Rattle.std.specs.List.{list_any, list_all}
use Rattle.std.specs.Map.{lookup}
use Rattle.std.specs.Option.{option_or}
use Rattle.std.specs.Char.{is_ascii_alphabetic, to_ascii_lowercase}
use Rattle.std.proofs.lemmas.List.{length-map}
use Rattle.std.proofs.lemmas.Bool.Decides.{nat_tests}
use Rattle.hippo_values.specs.declared.keywords.Reserved.{Reserved}
use Rattle.hippo_values.specs.declared.keywords.Reserved.TheVariants as reserved
use Rattle.std.proofs.lemmas.Str.Ascii.{lowercase-lowercase}
use Rattle.std.specs.Str.{IsAscii}
use Rattle.std.proofs.lemmas.Bool.{and_parts}
use Rattle.hippo_values.proofs.AsciiLemmas.{AreAscii, IsAscii-of_bytes, IsAscii-same}
use Rattle.hippo_values.specs.Names.{keywords, unsupported_words, lower_case, reserved_of, is_word_byte, begins_with_letter, is_word, is_name}

is_ascii_alphabetic-lowercase : (b : ℕ) → is_ascii_alphabetic (to_ascii_lowercase b) ≡ is_ascii_alphabetic b
is_ascii_alphabetic-lowercase b = grind (arith, nat_tests)

is_word_byte-lowercase : (b : ℕ) → is_word_byte (to_ascii_lowercase b) ≡ is_word_byte b
is_word_byte-lowercase b = grind (arith, nat_tests)

pub lower_case-lower_case : (word : List ℕ) → lower_case (lower_case word) ≡ lower_case word
lower_case-lower_case [] = refl
lower_case-lower_case (b ∷ bs) = rw (lowercase-lowercase b, lower_case-lower_case bs)

all_word_bytes-lower_case : (word : List ℕ) → list_all is_word_byte (lower_case word) ≡ list_all is_word_byte word
all_word_bytes-lower_case [] = refl
all_word_bytes-lower_case (b ∷ bs) = rw (is_word_byte-lowercase b, all_word_bytes-lower_case bs)

begins_with_letter-lower_case : (word : List ℕ) → begins_with_letter (lower_case word) ≡ begins_with_letter word
begins_with_letter-lower_case [] = refl
begins_with_letter-lower_case (b ∷ bs) = is_ascii_alphabetic-lowercase b

-- why a lower-case word is not a name
abbrev reserved_in : List ℕ → Option Reserved
reserved_in word =
    option_or (option_map reserved.Keyword (lookup (λ known. bytes_eq known word) keywords))
    (if list_any (λ known. bytes_eq known word) unsupported_words then Some reserved.Unsupported else None)

reserved_of-lower_case : (word : List ℕ) → reserved_of (lower_case word) ≡ reserved_of word
reserved_of-lower_case word = ap reserved_in (lower_case-lower_case word)

-- A word in lower case is a name exactly when the word is.
pub is_name-lower_case : (word : List ℕ) → is_name (lower_case word) ≡ is_name word
is_name-lower_case word =
    cc (
      begins_with_letter-lower_case word,
      all_word_bytes-lower_case word,
      length-map word to_ascii_lowercase,
      reserved_of-lower_case word,
    )

-- An unreserved word with the form of a name is a name.
pub is_name-free : (word : List ℕ) → (is_word word && nat_le (length word) 63) ≡ true → reserved_of word ≡ None → is_name word ≡ true
is_name-free word form free = rw (form, free) refl

is_word_byte-ascii : (b : ℕ) → is_word_byte b ≡ true → b < 128
is_word_byte-ascii b h = grind (arith, nat_tests)

word_bytes-ascii : (bytes : List ℕ) → list_all is_word_byte bytes ≡ true → AreAscii bytes
word_bytes-ascii [] h = tt
word_bytes-ascii (b ∷ bs) h =
    let parts = and_parts (is_word_byte b) (list_all is_word_byte bs) h in
    (is_word_byte-ascii b parts.0, word_bytes-ascii bs parts.1)

-- The bytes of a name are ASCII.
pub name-ascii : (name bytes : List ℕ) → bytes ≡ name → IsTrue (is_name name) → IsAscii bytes
name-ascii name bytes same named =
    let whole = and_parts _ _ named in
    let word = and_parts _ _ (and_parts _ _ whole.0).0 in
    IsAscii-same bytes name same (IsAscii-of_bytes name (word_bytes-ascii name word.1))

-- If the first bytes are folded together with some of those after them, the first bytes are the
-- word in lower case.
pub folded_front : (word copied zeros folded remaining : List ℕ) (count : ℕ) → copied ≡ word → folded ≡ map to_ascii_lowercase (take count (copied ++ zeros)) → length word ≤ count → take (length word) (folded ++ remaining) ≡ lower_case word
folded_front [] copied zeros folded remaining count same is within = refl
folded_front (byte ∷ word) copied zeros folded remaining zero same is within = absurd (omega (arith, within))
folded_front (byte ∷ word) copied zeros folded remaining (suc count) same is within =
    let rest : length word ≤ count = omega (arith, within) in
    rw (is, same) (λ i. to_ascii_lowercase byte ∷ folded_front word word zeros (map to_ascii_lowercase (take count (word ++ zeros))) remaining count refl refl rest i)
