-- A text is printed in pieces, each up to the next quote.
use Rattle.std.proofs.Common.{◌≡◌, ◌≢◌, ℕ, suc, Bool, true, false, ◌||◌, inl, inr, ◌+◌, ◌<◌, ◌≤◌, List, [], ◌∷◌, ◌++◌, length, get_or, take, refl, ap, ◌∙◌, arith, append_assoc}
use Rattle.std.specs.List.{list_any}
use Rattle.std.proofs.lemmas.List.{length-append, length-take, take-append-le, take_all}
use Rattle.std.proofs.lemmas.Bool.{cases_Bool, true≢false}
use Rattle.std.proofs.lemmas.Bool.Decides.{nat_tests}
use Rattle.hippo_values_text.specs.Printing.{KeepsFront}
use Rattle.hippo_values_text.specs.Quoting.{is_quote, doubled_quotes}

-- the text has no quote
abbrev pub HasNoQuote : List ℕ → Type 0
HasNoQuote text = (i : ℕ) → i < length text → get_or text i 0 ≢ 39

is_quote-other : (byte : ℕ) → byte ≢ 39 → is_quote byte ≡ false
is_quote-other byte h = grind (arith, nat_tests)

pub doubled_quotes-without : (text : List ℕ) → HasNoQuote text → doubled_quotes text ≡ text
doubled_quotes-without [] h = refl
doubled_quotes-without (b ∷ bs) h =
    rw (is_quote-other b (h 0 (omega arith))) (ap (λ t. b ∷ t) (doubled_quotes-without bs (λ i lt. h (suc i) (omega arith))))

-- the same, by a test of each byte
pub doubled_quotes-same : (text : List ℕ) → list_any is_quote text ≡ false → doubled_quotes text ≡ text
doubled_quotes-same [] none = refl
doubled_quotes-same (b ∷ bs) none =
    let both = or_none (is_quote b) (list_any is_quote bs) none in
    rw (both.0) (ap (λ t. b ∷ t) (doubled_quotes-same bs both.1))
  where
    or_none : (x y : Bool) → (x || y) ≡ false → (x ≡ false) × (y ≡ false)
    or_none true y e = absurd (true≢false e)
    or_none false y e = (refl, e)

doubled_quotes-append : (xs ys : List ℕ) → doubled_quotes (xs ++ ys) ≡ doubled_quotes xs ++ doubled_quotes ys
doubled_quotes-append [] ys = refl
doubled_quotes-append (b ∷ bs) ys = elim (cases_Bool (is_quote b)) [
  | inl quote ↦ rw quote (ap (λ t. 39 ∷ 39 ∷ t) (doubled_quotes-append bs ys))
  | inr other ↦ rw other (ap (λ t. b ∷ t) (doubled_quotes-append bs ys))
]

pub doubled_quotes-split : (text before after : List ℕ) → text ≡ before ++ (39 ∷ after) → HasNoQuote before → doubled_quotes text ≡ before ++ (39 ∷ 39 ∷ doubled_quotes after)
doubled_quotes-split text before after e none =
    rw (e, doubled_quotes-append, doubled_quotes-without before none) refl

-- appending keeps the prefix
pub KeepsFront-append : (old new more : List ℕ) → KeepsFront old new → KeepsFront old (new ++ more)
KeepsFront-append old new more h =
    let within : length old ≤ length new = omega (arith, length-take (length old) new, ap length h) in
    take-append-le (length old) new more within ∙ h

pub KeepsFront-same : (old new : List ℕ) → new ≡ old → KeepsFront old new
KeepsFront-same old new same = ap (take (length old)) same ∙ take_all (length old) old (omega arith)

-- one more quote is printed
pub doubled_quotes-step : (initial text out rest before after first second : List ℕ) → out ++ doubled_quotes rest ≡ initial ++ doubled_quotes text → (rest ≡ before ++ (39 ∷ after)) × HasNoQuote before → first ≡ out ++ before → second ≡ first ++ (39 ∷ 39 ∷ []) → second ++ doubled_quotes after ≡ initial ++ doubled_quotes text
doubled_quotes-step initial text out rest before after first second whole split ef es =
    let e = doubled_quotes-split rest before after split.0 split.1 in
    rw (es, ef, ← whole, e) (simp append_assoc)

-- and the rest, which has no quote
pub doubled_quotes-last : (initial text out rest new : List ℕ) → out ++ doubled_quotes rest ≡ initial ++ doubled_quotes text → HasNoQuote rest → new ≡ out ++ rest → new ≡ initial ++ doubled_quotes text
doubled_quotes-last initial text out rest new whole none e = e ∙ rw (← whole, doubled_quotes-without rest none) refl

pub KeepsFront-step : (old out before first second : List ℕ) → KeepsFront old out → first ≡ out ++ before → second ≡ first ++ (39 ∷ 39 ∷ []) → KeepsFront old second
KeepsFront-step old out before first second h ef es =
    rw (es, ef) (KeepsFront-append old (out ++ before) (39 ∷ 39 ∷ []) (KeepsFront-append old out before h))

-- The length of what is printed so far and of the rest is the length of the whole.
pub doubled_quotes-room : (initial text out rest : List ℕ) (room : ℕ) → out ++ doubled_quotes rest ≡ initial ++ doubled_quotes text → length initial + length (doubled_quotes text) ≤ room → length out + length (doubled_quotes rest) ≤ room
doubled_quotes-room initial text out rest room whole fits =
    omega (arith, ap length whole, length-append out (doubled_quotes rest), length-append initial (doubled_quotes text))

-- the text before a quote is shorter than the rest
pub doubled_quotes-longer : (rest before after : List ℕ) → (rest ≡ before ++ (39 ∷ after)) × HasNoQuote before → length before + 2 ≤ length (doubled_quotes rest)
doubled_quotes-longer rest before after split =
    omega (arith, ap length (doubled_quotes-split rest before after split.0 split.1), length-append before (39 ∷ 39 ∷ doubled_quotes after))
