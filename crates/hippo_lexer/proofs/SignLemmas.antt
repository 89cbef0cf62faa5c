-- Signs of one and of two bytes.
use Rattle.std.proofs.Common.{◌≡◌, ℕ, ◌<◌, ◌⊎◌, Bool, true, not, ◌&&◌, List, [], ◌∷◌, ◌++◌, length, Option, Some, None, refl, sym, ap, ◌∙◌, inl, inr, arith, bytes_eq}
use Rattle.std.specs.Prelude.{nat_lt}
use Rattle.std.specs.Map.{lookup}
use Rattle.std.specs.List.{list_all}
use Rattle.std.specs.Char.{is_ascii_alphabetic, is_ascii_digit}
use Rattle.std.proofs.lemmas.Bool.{cases_Bool, and_parts, ltb-true}
use Rattle.std.proofs.lemmas.Slice.Eq.{bytes_eq-Decides}
use Rattle.hippo_lexer.specs.declared.kinds.Symbol.{Symbol}
use Rattle.hippo_lexer.specs.Spelling.{is_blank, is_quote, is_minus, begins_with, sign_table, sign_of}
use Rattle.hippo_lexer.specs.Cutting.{sign_first}
use Rattle.hippo_lexer.specs.Grammar.{IsLongestSign}

-- a test that each text in a table passes holds for a text found there
lookup-passes : {X : Type 0} (table : List (List ℕ × X)) (test : List ℕ → Bool) (text : List ℕ) (found : X) → list_all (λ e. test e.0) table ≡ true → lookup (λ known. bytes_eq known text) table ≡ Some found → test text ≡ true
lookup-passes [] test text found all h = cc
lookup-passes (entry ∷ table) test text found all h = elim (cases_Bool (bytes_eq entry.0 text)) [
  | inl same ↦ ap test (sym ((bytes_eq-Decides entry.0 text).0 same)) ∙ (and_parts _ _ all).0
  | inr other ↦ lookup-passes table test text found (and_parts _ _ all).1 (rw other at h)
]

-- a byte that begins a sign begins no other token
abbrev begins_sign : ℕ → Bool
begins_sign byte = not (is_ascii_alphabetic byte) && not (is_ascii_digit byte) && not (is_minus byte) && not (is_quote byte) && not (is_blank byte)

abbrev is_short : List ℕ → Bool
is_short text = nat_lt 0 (length text) && nat_lt (length text) 3

pub sign-begins : (text : List ℕ) (sign : Symbol) → sign_of text ≡ Some sign → begins_with begins_sign text ≡ true
unfolding sign_of sign_table
sign-begins text sign h = lookup-passes sign_table (begins_with begins_sign) text sign refl h

pub sign-plain : (text : List ℕ) (sign : Symbol) → sign_of text ≡ Some sign → list_all (λ byte. nat_lt byte 128) text ≡ true
unfolding sign_of sign_table
sign-plain text sign h = lookup-passes sign_table (λ t. list_all (λ byte. nat_lt byte 128) t) text sign refl h

sign-short : (text : List ℕ) (sign : Symbol) → sign_of text ≡ Some sign → (0 < length text) × (length text < 3)
unfolding sign_of sign_table
sign-short text sign h =
    let parts = and_parts (nat_lt 0 (length text)) (nat_lt (length text) 3) (lookup-passes sign_table is_short text sign refl h) in
    (ltb-true 0 (length text) parts.0, ltb-true (length text) 3 parts.1)

-- a text of three or more bytes is not a sign
not_long : (text : List ℕ) (o : Option Symbol) → sign_of text ≡ o → 2 < length text → o ≡ None
not_long text None h long = refl
not_long text (Some sign) h long = let short = (sign-short text sign h).1 in absurd (omega arith)

-- a sign is found by the grammar
pub sign_first-is : (text rest : List ℕ) (sign : Symbol) → sign_of text ≡ Some sign → IsLongestSign text rest → sign_first (text ++ rest) ≡ Some (sign, length text)
unfolding sign_first
sign_first-is [] rest sign h longest = let short = (sign-short [] sign h).0 in absurd (omega arith)
sign_first-is (a ∷ []) [] sign h longest = rw h refl
sign_first-is (a ∷ []) (b ∷ more) sign h longest = rw (longest b more refl, h) refl
sign_first-is (a ∷ b ∷ []) rest sign h longest = rw h refl
sign_first-is (a ∷ b ∷ c ∷ text) rest sign h longest = let short = (sign-short (a ∷ b ∷ c ∷ text) sign h).1 in absurd (omega arith)

-- no sign begins with the byte
pub no_sign : (byte : ℕ) (rest : List ℕ) → sign_of (byte ∷ []) ≡ None → IsLongestSign (byte ∷ []) rest → sign_first (byte ∷ rest) ≡ None
unfolding sign_first
no_sign byte [] h longest = rw h refl
no_sign byte (next ∷ more) h longest = rw (longest next more refl, h) refl

some_or_none : {X : Type 0} (o : Option X) → ((x : X) × (o ≡ Some x)) ⊎ (o ≡ None)
some_or_none (Some x) = inl (x, refl)
some_or_none None = inr refl

longest_two : (a b : ℕ) (rest : List ℕ) → IsLongestSign (a ∷ b ∷ []) rest
longest_two a b rest c more same = not_long (a ∷ b ∷ c ∷ []) _ refl (omega arith)

longest_at_end : (a : ℕ) → IsLongestSign (a ∷ []) []
longest_at_end a b more same = cc

longest_one : (a b : ℕ) (rest : List ℕ) → sign_of (a ∷ b ∷ []) ≡ None → IsLongestSign (a ∷ []) (b ∷ rest)
longest_one a b rest none c more same = let next : c ≡ b = cc in rw next none

-- a text begins with a sign or with none
abbrev BeginsSign : List ℕ → Type 0
BeginsSign bytes = (text : List ℕ) × (rest : List ℕ) × (sign : Symbol) × (bytes ≡ text ++ rest) × (sign_of text ≡ Some sign) × IsLongestSign text rest

pub sign_or_none : (byte : ℕ) (rest : List ℕ) → BeginsSign (byte ∷ rest) ⊎ ((sign_of (byte ∷ []) ≡ None) × IsLongestSign (byte ∷ []) rest)
sign_or_none byte [] = elim (some_or_none (sign_of (byte ∷ []))) [
  | inl found ↦ inl (byte ∷ [], [], found.0, refl, found.1, longest_at_end byte)
  | inr none ↦ inr (none, longest_at_end byte)
]
sign_or_none byte (next ∷ more) = elim (some_or_none (sign_of (byte ∷ next ∷ []))) [
  | inl two ↦ inl (byte ∷ next ∷ [], more, two.0, refl, two.1, longest_two byte next more)
  | inr short ↦ elim (some_or_none (sign_of (byte ∷ []))) [
    | inl one ↦ inl (byte ∷ [], next ∷ more, one.0, refl, one.1, longest_one byte next more short)
    | inr none ↦ inr (none, longest_one byte next more short)
  ]
]
