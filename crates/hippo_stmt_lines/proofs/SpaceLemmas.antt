-- The words of a text, from its front.
use Rattle.std.proofs.Common.{◌≡◌, ℕ, zero, suc, ◌+◌, ◌-◌, ◌<◌, ◌≤◌, ◌⊎◌, true, false, eqb, List, [], ◌∷◌, length, get_or, Option, Some, None, inl, inr, refl, sym, ap, ◌∙◌, arith, one-add}
use Rattle.std.specs.Prelude.{nat_lt, IsUtf8, IsCharBoundary}
use Rattle.std.specs.List.{filter, slice_split, prefix_len, position_or_len, before_first, after_first}
use Rattle.std.proofs.lemmas.Bool.{cases_Bool, ltb-false}
use Rattle.std.proofs.lemmas.Bool.Decides.{nat_tests}
use Rattle.std.proofs.lemmas.List.{take_all, drop_all}
use Rattle.std.proofs.lemmas.List.Sums.{prefix_len_passes, prefix_len-le-length}
use Rattle.std.proofs.lemmas.Str.{IsCharBoundary-start, IsCharBoundary-after_ascii}
use Rattle.hippo_values.specs.Texts.{is_space}
use Rattle.hippo_stmt_lines.specs.Words.{is_filled, words_of, split_at_space, trimmed_text}

-- a text may be cut after spaces
cut_at : (text : List ℕ) (n : ℕ) → IsUtf8 text → n ≤ length text → (0 < n → get_or text (n - 1) 0 < 128) → IsCharBoundary text n
cut_at text zero utf8 within ascii = IsCharBoundary-start text utf8
cut_at text (suc n) utf8 within ascii =
    let last : suc n - 1 ≡ n = omega arith in
    let next : n + 1 ≡ suc n = omega arith in
    rw next at (IsCharBoundary-after_ascii text n utf8 (omega arith) (rw last at (ascii (omega arith))))

small_space : (byte : ℕ) → is_space byte ≡ true → byte < 128
small_space byte h = grind (arith, nat_tests)

pub boundary-spaces : (text : List ℕ) → IsUtf8 text → IsCharBoundary text (prefix_len is_space text)
boundary-spaces text utf8 =
    cut_at text (prefix_len is_space text) utf8 (prefix_len-le-length is_space text)
    (λ some. small_space _ (prefix_len_passes is_space text (prefix_len is_space text - 1) 0 (omega arith)))

-- the pieces of a text: the one before the first space, and the ones after it
record Pieces (text : List ℕ) : Type 0 where
  later : List (List ℕ)
  parts : slice_split is_space text ≡ before_first is_space text ∷ later
  words : filter is_filled later ≡ words_of (after_first is_space text)

front : (x : ℕ) (xs : List ℕ) → is_space x ≡ false → before_first is_space (x ∷ xs) ≡ x ∷ before_first is_space xs
front x xs other = rw (other, one-add) refl

remaining : (x : ℕ) (xs : List ℕ) → is_space x ≡ false → after_first is_space (x ∷ xs) ≡ after_first is_space xs
remaining x xs other =
    let count : 1 + position_or_len is_space xs + 1 ≡ suc (position_or_len is_space xs + 1) = omega arith in
    rw (other, count) refl

pieces : (text : List ℕ) → Pieces text
pieces [] = record { later = []; parts = refl; words = unfold words_of in refl }
pieces (x ∷ xs) = elim (cases_Bool (is_space x)) [
  | inl space ↦ record { later = slice_split is_space xs; parts = rw space refl; words = rw space (unfold words_of in refl) }
  | inr other ↦
      let rest = pieces xs in
      let split : slice_split is_space (x ∷ xs) ≡ (x ∷ before_first is_space xs) ∷ rest.later = rw (other, rest.parts) refl in
      record {
        later = rest.later;
        parts = split ∙ ap (λ first. first ∷ rest.later) (sym (front x xs other));
        words = rw (remaining x xs other) rest.words;
      }
]

-- the words of a text that does not begin with a space
words_of-first : (x : ℕ) (xs : List ℕ) → is_space x ≡ false → words_of (x ∷ xs) ≡ before_first is_space (x ∷ xs) ∷ words_of (after_first is_space (x ∷ xs))
unfolding words_of
words_of-first x xs other =
    let all = pieces (x ∷ xs) in
    ap (filter is_filled) all.parts ∙ (ap (λ first. filter is_filled (first ∷ all.later)) (front x xs other)
    ∙ (ap (λ words. (x ∷ before_first is_space xs) ∷ words) all.words
    ∙ ap (λ first. first ∷ words_of (after_first is_space (x ∷ xs))) (sym (front x xs other))))

-- what a text without its leading spaces is
abbrev IsTrimmed : List ℕ → Type 0
IsTrimmed text = (text ≡ []) ⊎ ((x : ℕ) × (xs : List ℕ) × (text ≡ x ∷ xs) × (is_space x ≡ false))

trimmed_text-is : (text : List ℕ) → IsTrimmed (trimmed_text text)
trimmed_text-is [] = inl refl
trimmed_text-is (x ∷ xs) = elim (cases_Bool (is_space x)) [
  | inl space ↦ rw (space, one-add) (trimmed_text-is xs)
  | inr other ↦ rw other (inr (x, xs, refl, other))
]

words_of-trimmed_text : (text : List ℕ) → words_of text ≡ words_of (trimmed_text text)
words_of-trimmed_text [] = refl
words_of-trimmed_text (x ∷ xs) = elim (cases_Bool (is_space x)) [
  | inl space ↦
      let same : words_of (x ∷ xs) ≡ words_of xs = unfold words_of in rw space refl in
      same ∙ (words_of-trimmed_text xs ∙ ap words_of (sym (shorter space)))
  | inr other ↦ rw other refl
]
  where
    shorter : is_space x ≡ true → trimmed_text (x ∷ xs) ≡ trimmed_text xs
    shorter space = rw (space, one-add) refl

-- a text of spaces has no word
pub words_of-blank : (text : List ℕ) → length (trimmed_text text) ≡ 0 → words_of text ≡ []
words_of-blank text none = words_of-trimmed_text text ∙ by_form (trimmed_text text) (trimmed_text-is text) none
  where
    by_form : (rest : List ℕ) → IsTrimmed rest → length rest ≡ 0 → words_of rest ≡ []
    by_form rest (inl empty) none = rw empty (unfold words_of in refl)
    by_form rest (inr some) none = let more : suc (length some.1) ≡ 0 = rw some.2 at none in absurd (omega arith)

-- a space follows the first word
pub words_of-more : (text word more : List ℕ) → split_at_space (trimmed_text text) ≡ Some (word, more) → words_of text ≡ word ∷ words_of more
words_of-more text word more found = words_of-trimmed_text text ∙ by_form (trimmed_text text) (trimmed_text-is text) found
  where
    by_form : (rest : List ℕ) → IsTrimmed rest → split_at_space rest ≡ Some (word, more) → words_of rest ≡ word ∷ words_of more
    by_form rest (inl empty) found = let nothing : None ≡ Some (word, more) = rw empty at found in cc
    by_form rest (inr some) found = elim (cases_Bool (nat_lt (position_or_len is_space rest) (length rest))) [
      | inl within ↦
          let same : Some (before_first is_space rest, after_first is_space rest) ≡ Some (word, more) = rw within at found in
          let word_is : before_first is_space rest ≡ word = ap (λ o. first_in o) same in
          let more_is : after_first is_space rest ≡ more = ap (λ o. second_in o) same in
          rw (← word_is, ← more_is) (rw some.2 (words_of-first some.0 some.1 some.3))
      | inr past ↦ let nothing : None ≡ Some (word, more) = rw past at found in cc
    ]
      where
        first_in : Option (List ℕ × List ℕ) → List ℕ
        first_in None = []
        first_in (Some parts) = parts.0

        second_in : Option (List ℕ × List ℕ) → List ℕ
        second_in None = []
        second_in (Some parts) = parts.1

-- the first word is the last one
pub words_of-last : (text : List ℕ) → eqb (length (trimmed_text text)) 0 ≡ false → split_at_space (trimmed_text text) ≡ None → words_of text ≡ trimmed_text text ∷ words_of []
words_of-last text some missing = words_of-trimmed_text text ∙ by_form (trimmed_text text) (trimmed_text-is text) some missing
  where
    by_form : (rest : List ℕ) → IsTrimmed rest → eqb (length rest) 0 ≡ false → split_at_space rest ≡ None → words_of rest ≡ rest ∷ words_of []
    by_form rest (inl empty) some missing = let none : true ≡ false = rw empty at some in cc
    by_form rest (inr parts) some missing = elim (cases_Bool (nat_lt (position_or_len is_space rest) (length rest))) [
      | inl within ↦ let something : Some (before_first is_space rest, after_first is_space rest) ≡ None = rw within at missing in cc
      | inr past ↦
          let high : length rest ≤ position_or_len is_space rest = ltb-false _ _ past in
          let all : before_first is_space rest ≡ rest = take_all (position_or_len is_space rest) rest high in
          let none : after_first is_space rest ≡ [] = drop_all (position_or_len is_space rest + 1) rest (omega arith) in
          let first : words_of rest ≡ before_first is_space rest ∷ words_of (after_first is_space rest) = rw parts.2 (words_of-first parts.0 parts.1 parts.3) in
          first ∙ rw (all, none) refl
    ]
