-- Where a quoted text ends.
use Rattle.std.proofs.Common.{◌≡◌, ◌≢◌, ℕ, suc, ◌+◌, ◌-◌, ◌<◌, ◌≤◌, false, List, [], ◌∷◌, ◌++◌, length, get_or, Option, Some, None, refl, sym, ap, ◌∙◌, arith}
use Rattle.std.proofs.lemmas.List.{append_assoc, append-nil, length-append}
use Rattle.std.proofs.lemmas.Bool.{ne_eqb}
use Rattle.hippo_lexer.specs.Spelling.{is_quote, begins_with}
use Rattle.hippo_lexer.specs.Cutting.{closing, onto, quoted_first}

-- a byte that is not a quote is part of the text
pub closing-other : (byte : ℕ) (rest : List ℕ) → is_quote byte ≡ false → closing (byte ∷ rest) ≡ onto (byte ∷ []) 1 (closing rest)
unfolding closing
closing-other byte [] h = rw h refl
closing-other byte (next ∷ rest) h = rw h refl

-- two quotes are one
pub closing-two : (rest : List ℕ) → closing (39 ∷ 39 ∷ rest) ≡ onto (39 ∷ []) 2 (closing rest)
unfolding closing
closing-two rest = refl

-- a single quote closes the text
pub closing-end : (rest : List ℕ) → begins_with is_quote rest ≡ false → closing (39 ∷ rest) ≡ Some ([], 1)
unfolding closing
closing-end [] h = refl
closing-end (next ∷ rest) h = rw h refl

onto-onto : (front back : List ℕ) (m n : ℕ) (closed : Option (List ℕ × ℕ)) → onto front m (onto back n closed) ≡ onto (front ++ back) (m + n) closed
onto-onto front back m n None = refl
onto-onto front back m n (Some (text, k)) =
    let texts : front ++ (back ++ text) ≡ front ++ back ++ text = sym (append_assoc front back text) in
    let numbers : m + (n + k) ≡ m + n + k = omega arith in
    rw (texts, numbers) refl

-- bytes that are not quotes are part of the text
pub closing-run : (run rest : List ℕ) → ((i : ℕ) → i < length run → get_or run i 0 ≢ 39) → closing (run ++ rest) ≡ onto run (length run) (closing rest)
closing-run [] rest h = onto_nothing (closing rest) where
  onto_nothing : (closed : Option (List ℕ × ℕ)) → closed ≡ onto [] 0 closed
  onto_nothing None = refl
  onto_nothing (Some (text, k)) = let number : 0 + k ≡ k = omega arith in rw number refl
closing-run (byte ∷ run) rest h =
    let none : is_quote byte ≡ false = ne_eqb byte 39 (h 0 (omega arith)) in
    let more : closing (run ++ rest) ≡ onto run (length run) (closing rest) = closing-run run rest (λ i small. h (suc i) (omega arith)) in
    let count : 1 + length run ≡ suc (length run) = omega arith in
    closing-other byte (run ++ rest) none ∙ ap (onto (byte ∷ []) 1) more
    ∙ (onto-onto (byte ∷ []) run 1 (length run) (closing rest) ∙ ap (λ n. onto (byte ∷ run) n (closing rest)) count)

pub closing-nil : closing [] ≡ None
unfolding closing
closing-nil = refl

-- without a quote nothing closes
pub closing-none : (bytes : List ℕ) → ((i : ℕ) → i < length bytes → get_or bytes i 0 ≢ 39) → closing bytes ≡ None
closing-none bytes h =
    ap closing (sym (append-nil bytes)) ∙ (closing-run bytes [] h ∙ ap (onto bytes (length bytes)) closing-nil)

-- one step: a run, and then two quotes
pub closing-step : (front run next : List ℕ) (n : ℕ) → ((i : ℕ) → i < length run → get_or run i 0 ≢ 39) → onto front n (closing (run ++ 39 ∷ 39 ∷ next)) ≡ onto (front ++ run ++ 39 ∷ []) (n + length run + 2) (closing next)
closing-step front run next n h =
    ap (onto front n) (closing-run run (39 ∷ 39 ∷ next) h ∙ ap (onto run (length run)) (closing-two next))
    ∙ (onto-onto front run n (length run) (onto (39 ∷ []) 2 (closing next)) ∙ onto-onto (front ++ run) (39 ∷ []) (n + length run) 2 (closing next))

-- the last step: a run, and then a single quote
pub closing-last : (front run after : List ℕ) (n : ℕ) → ((i : ℕ) → i < length run → get_or run i 0 ≢ 39) → begins_with is_quote after ≡ false → onto front n (closing (run ++ 39 ∷ after)) ≡ Some (front ++ run, n + length run + 1)
closing-last front run after n h single =
    ap (onto front n) (closing-run run (39 ∷ after) h ∙ ap (onto run (length run)) (closing-end after single))
    ∙ (onto-onto front run n (length run) (Some ([], 1)) ∙ ap (λ text. Some (text, n + length run + 1)) (append-nil (front ++ run)))

-- a text that does not continue with a quote
pub single : (rest : List ℕ) → ((more : List ℕ) → rest ≢ 39 ∷ more) → begins_with is_quote rest ≡ false
single [] h = refl
single (byte ∷ rest) h = ne_eqb byte 39 (λ e. h rest (ap (λ b. b ∷ rest) e))

-- The call returns: a run and a single quote come next.
pub closing-found : (text run after rest remaining : List ℕ) → length rest ≤ length remaining → onto text (length remaining - length rest) (closing rest) ≡ closing remaining → rest ≡ run ++ 39 ∷ after → ((i : ℕ) → i < length run → get_or run i 0 ≢ 39) → ((more : List ℕ) → after ≢ 39 ∷ more) → Some (text ++ run, length remaining - length after) ≡ closing remaining
closing-found text run after rest remaining within told split none last =
    let count : length remaining - length rest + length run + 1 ≡ length remaining - length after = omega (arith, simp length-append at (ap length split)) in
    ap (λ n. Some (text ++ run, n)) (sym count)
    ∙ (sym (closing-last text run after (length remaining - length rest) none (single after last))
    ∙ (ap (λ bytes. onto text (length remaining - length rest) (closing bytes)) (sym split) ∙ told))

-- The loop continues: a run and two quotes come next.
pub closing-more : (text run next rest remaining : List ℕ) → length rest ≤ length remaining → onto text (length remaining - length rest) (closing rest) ≡ closing remaining → rest ≡ run ++ 39 ∷ 39 ∷ next → ((i : ℕ) → i < length run → get_or run i 0 ≢ 39) → onto (text ++ run ++ 39 ∷ []) (length remaining - length next) (closing next) ≡ closing remaining
closing-more text run next rest remaining within told split none =
    let count : length remaining - length rest + length run + 2 ≡ length remaining - length next = omega (arith, simp length-append at (ap length split)) in
    ap (λ n. onto (text ++ run ++ 39 ∷ []) n (closing next)) (sym count)
    ∙ (sym (closing-step text run next (length remaining - length rest) none)
    ∙ (ap (λ bytes. onto text (length remaining - length rest) (closing bytes)) (sym split) ∙ told))

-- It ends: no quote is left.
pub closing-ends : (text rest remaining : List ℕ) (n : ℕ) → onto text n (closing rest) ≡ closing remaining → ((i : ℕ) → i < length rest → get_or rest i 0 ≢ 39) → None ≡ closing remaining
closing-ends text rest remaining n told none = sym (ap (onto text n) (closing-none rest none)) ∙ told

-- without an opening quote there is no quoted text
pub quoted_first-none : (bytes : List ℕ) → ((rest : List ℕ) → bytes ≢ 39 ∷ rest) → quoted_first bytes ≡ None
unfolding quoted_first
quoted_first-none [] h = refl
quoted_first-none (byte ∷ rest) h = rw (single (byte ∷ rest) h) refl
