-- The number whose text this is, searched between a first and a last number.
use Rattle.std.proofs.Common.{◌≡◌, ℕ, zero, suc, ◌<◌, List, Option, Some, None, IfSome, sym, ap, ◌∙◌, inl, inr, arith, ℤ, pos, ◌+ℤ◌, ◌-ℤ◌, ◌≤ℤ◌, unsigned_abs, bytes_eq}
use Rattle.std.proofs.lemmas.Bool.{cases_Bool, cases_order, both_ways}
use Rattle.std.proofs.lemmas.Int.{ints}
use Rattle.std.proofs.lemmas.Slice.Eq.{bytes_eq-Decides}
use Rattle.hippo_values_text.specs.Dates.{written_among}

module _ (text_of : ℤ → List ℕ) (first last : ℤ) where
  -- the number is between the first and the last, and the text is its written form
  abbrev IsWritten : List ℕ → ℤ → Type 0
  IsWritten text number = ((first ≤ℤ number) × (number ≤ℤ last)) × (text ≡ text_of number)

  found_among : (n : ℕ) (text : List ℕ) → ((first +ℤ pos n) ≤ℤ (last +ℤ pos 1)) → IfSome (written_among text_of first n text) (IsWritten text)
  unfolding written_among
  found_among zero text few = tt
  found_among (suc n) text few = elim (cases_Bool (bytes_eq text (text_of (first +ℤ pos n)))) [
    | inl same ↦ rw same ((omega (arith, ints), omega (arith, ints)), (bytes_eq-Decides text (text_of (first +ℤ pos n))).0 same)
    | inr other ↦ rw other (found_among n text (omega (arith, ints)))
  ]

  -- if none is found, none has this text
  none_among : (n : ℕ) (text : List ℕ) (k : ℕ) → k < n → written_among text_of first n text ≡ None → text ≡ text_of (first +ℤ pos k) → ⊥
  unfolding written_among
  none_among zero text k small none same = absurd (omega arith)
  none_among (suc n) text k small none same = elim (cases_Bool (bytes_eq text (text_of (first +ℤ pos n)))) [
    | inl passed ↦ let found : Some (first +ℤ pos n) ≡ None = rw passed at none in cc
    | inr other ↦ elim (cases_order k n) [
      | inl last ↦ both_ways _ other ((bytes_eq-Decides text (text_of (first +ℤ pos n))).1 (same ∙ ap (λ j. text_of (first +ℤ pos j)) last))
      | inr (inl below) ↦ none_among n text k below (rw other at none) same
      | inr (inr above) ↦ absurd (omega arith)
    ]
  ]

  -- the number found among all is the one with this text
  pub written-found : (total : ℕ) → (first +ℤ pos total) ≡ (last +ℤ pos 1) → (text : List ℕ) → IfSome (written_among text_of first total text) (IsWritten text)
  written-found total all text = found_among total text (omega (arith, ints, all))

  -- if none is found among all, no number has this text
  pub written-none : (total : ℕ) → (first +ℤ pos total) ≡ (last +ℤ pos 1) → (text : List ℕ) → written_among text_of first total text ≡ None → (number : ℤ) → ¬ (IsWritten text number)
  written-none total all text none number h =
      let place : ℕ = unsigned_abs (number -ℤ first) in
      let at : first +ℤ pos place ≡ number = grind (arith, ints, h.0.0) in
      none_among total text place (grind (arith, ints, h.0.0, h.0.1, all)) none (h.1 ∙ ap text_of (sym at))
