-- A quoted text by its spelling.
use Rattle.std.proofs.Common.{◌≡◌, ℕ, suc, ◌+◌, ◌⊎◌, false, List, [], ◌∷◌, ◌++◌, length, Some, None, refl, sym, ap, ◌∙◌, inl, inr, arith}
use Rattle.std.proofs.lemmas.Bool.{cases_Bool, eqb-true}
use Rattle.std.proofs.lemmas.List.{append_assoc, length-append}
use Rattle.hippo_lexer.specs.Spelling.{is_quote, begins_with, doubled_quotes}
use Rattle.hippo_lexer.specs.Cutting.{closing, onto, quoted_first}
use Rattle.hippo_lexer.specs.Grammar.{quoted_text}
use Rattle.hippo_lexer.proofs.QuoteLemmas.{closing-other, closing-two, closing-end, closing-nil}

-- a spelled text closes at its quote
closing-doubled_quotes : (text rest : List ℕ) → begins_with is_quote rest ≡ false → closing (doubled_quotes text ++ 39 ∷ rest) ≡ Some (text, length (doubled_quotes text) + 1)
closing-doubled_quotes [] rest ends = closing-end rest ends
closing-doubled_quotes (byte ∷ text) rest ends = elim (cases_Bool (is_quote byte)) [
  | inl quote ↦
      let same : byte ≡ 39 = eqb-true byte 39 quote in
      let count : 2 + (length (doubled_quotes text) + 1) ≡ suc (suc (length (doubled_quotes text))) + 1 = omega arith in
      rw quote (closing-two (doubled_quotes text ++ 39 ∷ rest) ∙ (ap (onto (39 ∷ []) 2) (closing-doubled_quotes text rest ends) ∙ rw (count, same) refl))
  | inr other ↦
      let count : 1 + (length (doubled_quotes text) + 1) ≡ suc (length (doubled_quotes text)) + 1 = omega arith in
      rw other (closing-other byte (doubled_quotes text ++ 39 ∷ rest) other ∙ (ap (onto (byte ∷ []) 1) (closing-doubled_quotes text rest ends) ∙ rw count refl))
]

-- without that quote it does not close
closing-unclosed : (text : List ℕ) → closing (doubled_quotes text) ≡ None
closing-unclosed [] = closing-nil
closing-unclosed (byte ∷ text) = elim (cases_Bool (is_quote byte)) [
  | inl quote ↦ rw quote (closing-two (doubled_quotes text) ∙ ap (onto (39 ∷ []) 2) (closing-unclosed text))
  | inr other ↦ rw other (closing-other byte (doubled_quotes text) other ∙ ap (onto (byte ∷ []) 1) (closing-unclosed text))
]

-- the bytes after an opening quote: a text that closes, or one that does not
abbrev Closes : List ℕ → Type 0
Closes bytes = (text : List ℕ) × (rest : List ℕ) × (bytes ≡ doubled_quotes text ++ 39 ∷ rest) × (begins_with is_quote rest ≡ false)

abbrev StaysOpen : List ℕ → Type 0
StaysOpen bytes = (text : List ℕ) × (bytes ≡ doubled_quotes text)

-- one more byte at the front
more_quote : (bytes : List ℕ) → Closes bytes ⊎ StaysOpen bytes → Closes (39 ∷ 39 ∷ bytes) ⊎ StaysOpen (39 ∷ 39 ∷ bytes)
more_quote bytes (inl closed) = inl (39 ∷ closed.0, closed.1, ap (λ b. 39 ∷ 39 ∷ b) closed.2, closed.3)
more_quote bytes (inr open_text) = inr (39 ∷ open_text.0, ap (λ b. 39 ∷ 39 ∷ b) open_text.1)

more_other : (byte : ℕ) (bytes : List ℕ) → is_quote byte ≡ false → Closes bytes ⊎ StaysOpen bytes → Closes (byte ∷ bytes) ⊎ StaysOpen (byte ∷ bytes)
more_other byte bytes other (inl closed) = inl (byte ∷ closed.0, closed.1, rw other (ap (λ b. byte ∷ b) closed.2), closed.3)
more_other byte bytes other (inr open_text) = inr (byte ∷ open_text.0, rw other (ap (λ b. byte ∷ b) open_text.1))

closes_or_not : (bytes : List ℕ) → Closes bytes ⊎ StaysOpen bytes
closes_or_not [] = inr ([], refl)
closes_or_not (byte ∷ []) = elim (cases_Bool (is_quote byte)) [
  | inl quote ↦ rw (eqb-true byte 39 quote) (inl ([], [], refl, refl))
  | inr other ↦ more_other byte [] other (inr ([], refl))
]
closes_or_not (byte ∷ next ∷ rest) = elim (cases_Bool (is_quote byte)) [
  | inl quote ↦ elim (cases_Bool (is_quote next)) [
    | inl again ↦ rw (eqb-true byte 39 quote, eqb-true next 39 again) (more_quote rest (closes_or_not rest))
    | inr single ↦ rw (eqb-true byte 39 quote) (inl ([], next ∷ rest, refl, single))
  ]
  | inr other ↦ more_other byte (next ∷ rest) other (closes_or_not (next ∷ rest))
]

-- a quoted text is found by its spelling
pub quoted_first-is : (text rest : List ℕ) → begins_with is_quote rest ≡ false → quoted_first (quoted_text text ++ rest) ≡ Some (text, length (quoted_text text))
unfolding quoted_first
quoted_first-is text rest ends =
    let count : 1 + (length (doubled_quotes text) + 1) ≡ length (quoted_text text) = simp length-append (omega arith) in
    rw (append_assoc (doubled_quotes text) (39 ∷ []) rest) (ap (onto [] 1) (closing-doubled_quotes text rest ends) ∙ rw count refl)

-- and none is found if it stays open
pub quoted_first-unclosed : (text : List ℕ) → quoted_first (39 ∷ doubled_quotes text) ≡ None
unfolding quoted_first
quoted_first-unclosed text = ap (onto [] 1) (closing-unclosed text)

-- a quote begins a quoted text or one that stays open
pub quoted_or_open : (bytes : List ℕ) → ((text : List ℕ) × (rest : List ℕ) × (39 ∷ bytes ≡ quoted_text text ++ rest) × (begins_with is_quote rest ≡ false)) ⊎ ((text : List ℕ) × (39 ∷ bytes ≡ 39 ∷ doubled_quotes text))
quoted_or_open bytes = elim (closes_or_not bytes) [
  | inl closed ↦ inl (closed.0, closed.1, ap (λ b. 39 ∷ b) (closed.2 ∙ sym (append_assoc (doubled_quotes closed.0) (39 ∷ []) closed.1)), closed.3)
  | inr open_text ↦ inr (open_text.0, ap (λ b. 39 ∷ b) open_text.1)
]
