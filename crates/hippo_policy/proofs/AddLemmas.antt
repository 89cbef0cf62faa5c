-- What a book keeps after one more entry, and after its last entry is removed.
use Rattle.std.proofs.Common.{◌≡◌, ◌∙◌, sym, refl, ap, arith, ℕ, ◌+◌, ◌-◌, List, [], ◌∷◌, ◌++◌, length, take, Bool, true, false, Option, Some, None}
use Rattle.std.proofs.Math.Seq.{take-append_seam}
use Rattle.std.proofs.lemmas.List.{length-append}
use Rattle.std.specs.Bool.{then_some}
use Rattle.hippo_model.specs.declared.entry.Entry.{Entry}
use Rattle.hippo_model.specs.Terms.{History}
use Rattle.hippo_policy.specs.Books.{IsKept}
use Rattle.hippo_policy.specs.Words.{Said, with_word, without_word, numbered_words}
use Rattle.hippo_policy.proofs.SaidLemmas.{numbered_from, with_said, clamped_number-numbered_words}

module _ {A : Type 0} (word : Entry → Option A) where
  with_said-append : (number : ℕ) (said : Option A) (words more : List (Said A)) → with_said word number said (words ++ more) ≡ with_said word number said words ++ more
  with_said-append number None words more = refl
  with_said-append number (Some said) words more = refl

  numbered_from-append : (number : ℕ) (history : History) (entry : Entry) → numbered_from word number (history ++ entry ∷ []) ≡ numbered_from word number history ++ with_said word (number + length history) (word entry) []
  numbered_from-append number [] entry = let e : number + 0 ≡ number = omega arith in rw e refl
  numbered_from-append number (first ∷ later) entry =
      let e : number + length (first ∷ later) ≡ number + 1 + length later = omega arith in
      rw (e, numbered_from-append (number + 1) later entry) (with_said-append number (word first) (numbered_from word (number + 1) later) (with_said word (number + 1 + length later) (word entry) []))

  numbered_words-append : (history : History) (entry : Entry) → numbered_words word (history ++ entry ∷ []) ≡ numbered_words word history ++ with_said word (1 + length history) (word entry) []
  numbered_words-append history entry = numbered_from-append 1 history entry

  append-none : (words : List (Said A)) → words ++ [] ≡ words
  append-none [] = refl
  append-none (said ∷ later) = ap (λ (rest : List (Said A)). said ∷ rest) (append-none later)

  pub numbered_words-silent : (history : History) (entry : Entry) → word entry ≡ None → numbered_words word (history ++ entry ∷ []) ≡ numbered_words word history
  numbered_words-silent history entry silent = numbered_words-append history entry ∙ rw silent (append-none (numbered_words word history))

  pub numbered_words-spoken : (test : Bool) (said : Said A) (history : History) (entry : Entry) → word entry ≡ then_some test said.word → said.number ≡ length history + 1 → with_word test said (numbered_words word history) ≡ numbered_words word (history ++ entry ∷ [])
  numbered_words-spoken false said history entry silent next = sym (numbered_words-silent history entry silent)
  numbered_words-spoken true said history entry spoken next =
      let e : 1 + length history ≡ said.number = omega (arith, next) in
      ap (λ (said : Said A). numbered_words word history ++ said ∷ []) (clamped_number-numbered_words word history said next)
      ∙ sym (numbered_words-append history entry ∙ rw (spoken, e) refl)

  without-last : (words : List (Said A)) (said : Said A) → take (length (words ++ said ∷ []) - 1) (words ++ said ∷ []) ≡ words
  without-last words said =
      let e : length (words ++ said ∷ []) - 1 ≡ length words = rw (length-append words (said ∷ [])) (omega arith) in
      rw e (take-append_seam words (said ∷ []))

  pub numbered_words-unspoken : (test : Bool) (said : A) (history : History) (entry : Entry) → word entry ≡ then_some test said → without_word test (numbered_words word (history ++ entry ∷ [])) ≡ numbered_words word history
  numbered_words-unspoken false said history entry silent = numbered_words-silent history entry silent
  numbered_words-unspoken true said history entry spoken = rw (numbered_words-append history entry, spoken) (without-last (numbered_words word history) (record { number = 1 + length history; word = said }))

module _ {K A : Type 0} (word : K → Entry → Option A) (history : History) (entry : Entry) where
  -- if the entry sets no value for any key
  pub IsKept-silent : (kept : K → List (Said A)) → ((key : K) → word key entry ≡ None) → IsKept kept word history → IsKept kept word (history ++ entry ∷ [])
  IsKept-silent kept silent is key = is key ∙ sym (numbered_words-silent (word key) history entry (silent key))

  -- if it sets a value for the keys that pass a test
  pub IsKept-spoken : (old new : K → List (Said A)) (test : K → Bool) (said : Said A) → ((key : K) → new key ≡ with_word (test key) said (old key)) → ((key : K) → word key entry ≡ then_some (test key) said.word) → said.number ≡ length history + 1 → IsKept old word history → IsKept new word (history ++ entry ∷ [])
  IsKept-spoken old new test said added spoken next is key = added key ∙ rw (is key) (numbered_words-spoken (word key) (test key) said history entry (spoken key) next)

  -- if the values that it set for them are removed
  pub IsKept-unspoken : (old new : K → List (Said A)) (test : K → Bool) (said : A) → ((key : K) → new key ≡ without_word (test key) (old key)) → ((key : K) → word key entry ≡ then_some (test key) said) → IsKept old word (history ++ entry ∷ []) → IsKept new word history
  IsKept-unspoken old new test said taken spoken is key = taken key ∙ rw (is key) (numbered_words-unspoken (word key) (test key) said history entry (spoken key))
