-- The last value up to a number, found by binary search, is that of the entries up to the number.
use Rattle.std.proofs.Common.{◌≡◌, ◌∙◌, sym, refl, ap, arith, ℕ, zero, suc, ◌+◌, ◌-◌, ◌≤◌, ◌<◌, List, [], ◌∷◌, ◌++◌, length, take, max, Bool, true, false, subst, if◌then◌else◌, Option, Some, None, nat_le, filter_map, option_map, slice_get}
use Rattle.std.proofs.Math.Nat.{max-eq_left, le-max_right}
use Rattle.std.proofs.lemmas.List.Sorted.{IsNonDecreasingBy-push}
use Rattle.std.proofs.lemmas.Option.{slice_get-get_or}
use Rattle.std.proofs.lemmas.Bool.Decides.{nat_tests}
use Rattle.std.specs.List.{enumerate_from, cons_option, slice_index_or}
use Rattle.std.specs.List.Sorted.{IsPartitionPoint, IsNonDecreasingBy}
use Rattle.std.specs.Option.{option_or}
use Rattle.hippo_model.specs.declared.entry.Entry.{Entry}
use Rattle.hippo_model.specs.Terms.{History}
use Rattle.hippo_model.specs.Histories.{last_word}
use Rattle.hippo_policy.specs.Words.{Said, latest_number, clamped_number, numbered_words, latest}

module _ {A : Type 0} where
  -- the last member
  abbrev pub last_of : List (Said A) → Option (Said A)
  last_of words = slice_get words (length words - 1)

  last_of-cons : (said : Said A) (later : List (Said A)) → option_map (λ (s : Said A). s.word) (last_of (said ∷ later)) ≡ option_or (option_map (λ (s : Said A). s.word) (last_of later)) (Some said.word)
  last_of-cons said [] = refl
  last_of-cons said (next ∷ later) =
      let e : suc (suc (length later)) - 1 ≡ suc (length later) = omega arith in
      let f : suc (length later) - 1 ≡ length later = omega arith in
      rw (e, f, slice_get-get_or (next ∷ later) (length later) next (omega arith)) refl

module _ {A : Type 0} (n : ℕ) where
  abbrev below : Said A → Type 0
  below said = nat_le said.number n ≡ true

  abbrev above : Said A → Type 0
  above said = nat_le said.number n ≡ false

  -- no value up to the number
  latest-above : (words : List (Said A)) → IsPartitionPoint below above words 0 → latest n words ≡ None
  latest-above [] parted = refl
  latest-above (said ∷ later) parted = rw (latest-above later (λ k d low high. absurd (omega arith), λ k d low high. parted.1 (suc k) d (omega arith) (omega arith)), parted.1 0 said (omega arith) (omega arith)) refl

  -- if the values are partitioned by the number, the last one before the partition point
  pub latest-parted : (words : List (Said A)) (i : ℕ) → IsPartitionPoint below above words i → latest n words ≡ option_map (λ (s : Said A). s.word) (last_of (take i words))
  latest-parted [] zero parted = refl
  latest-parted [] (suc i) parted = refl
  latest-parted (said ∷ later) zero parted = latest-above (said ∷ later) parted
  latest-parted (said ∷ later) (suc i) parted =
      rw (latest-parted later i (λ k d low high. parted.0 (suc k) d (omega arith) (omega arith), λ k d low high. parted.1 (suc k) d (omega arith) (omega arith)), parted.0 0 said (omega arith) (omega arith), last_of-cons said (take i later)) refl

module _ {A : Type 0} (word : Entry → Option A) where
  -- the values that entries set, from a number on
  abbrev pub numbered_from : ℕ → History → List (Said A)
  numbered_from number history = filter_map (λ (place, entry). option_map (λ said. record { number = place; word = said }) (word entry)) (enumerate_from number history)

  abbrev pub with_said : ℕ → Option A → List (Said A) → List (Said A)
  with_said number said later = cons_option (option_map (λ (s : A). record { number = number; word = s }) said) later

  latest-passed : (n number : ℕ) (said : Option A) (later : List (Said A)) → nat_le number n ≡ true → latest n (with_said number said later) ≡ option_or (latest n later) said
  latest-passed n number None later passed = right (latest n later)
    where
      right : (word : Option A) → word ≡ option_or word None
      right None = refl
      right (Some word) = refl
  latest-passed n number (Some said) later passed = rw passed refl

  latest-past : (n number : ℕ) (said : Option A) (later : List (Said A)) → nat_le number n ≡ false → latest n later ≡ None → latest n (with_said number said later) ≡ None
  latest-past n number None later past none = none
  latest-past n number (Some said) later past none = rw (none, past) refl

  none_from : (n number : ℕ) (history : History) → n < number → latest n (numbered_from number history) ≡ None
  none_from n number [] less = refl
  none_from n number (entry ∷ later) less = latest-past n number (word entry) (numbered_from (number + 1) later) (grind (arith, nat_tests)) (none_from n (number + 1) later (omega arith))

  latest-from : (number m : ℕ) (history : History) → latest (number + m) (numbered_from (number + 1) history) ≡ last_word word (take m history)
  latest-from number zero [] = refl
  latest-from number (suc m) [] = refl
  latest-from number zero (entry ∷ later) = none_from (number + 0) (number + 1) (entry ∷ later) (omega arith)
  latest-from number (suc m) (entry ∷ later) =
      let e : number + suc m ≡ number + 1 + m = omega arith in
      latest-passed (number + suc m) (number + 1) (word entry) (numbered_from (number + 1 + 1) later) (grind (arith, nat_tests))
      ∙ ap (λ (n : ℕ). option_or (latest n (numbered_from (number + 1 + 1) later)) (word entry)) e
      ∙ ap (λ (said : Option A). option_or said (word entry)) (latest-from (number + 1) m later)

  pub latest-numbered_words : (n : ℕ) (history : History) → latest n (numbered_words word history) ≡ last_word word (take n history)
  latest-numbered_words n history =
      let e : 0 + n ≡ n = omega arith in
      ap (λ (m : ℕ). latest m (numbered_words word history)) (sym e) ∙ latest-from 0 n history

  -- each number is below this one
  abbrev IsBelow : ℕ → List (Said A) → Type 0
  IsBelow bound words = (k : ℕ) (d : Said A) → k < length words → (slice_index_or words k d).number < bound

  IsBelow-with : (number bound : ℕ) (said : Option A) (later : List (Said A)) → number < bound → IsBelow bound later → IsBelow bound (with_said number said later)
  IsBelow-with number bound None later less below k d short = below k d short
  IsBelow-with number bound (Some said) later less below zero d short = less
  IsBelow-with number bound (Some said) later less below (suc k) d short = below k d (omega arith)

  IsBelow-numbered_words : (number : ℕ) (history : History) → IsBelow (number + length history) (numbered_from number history)
  IsBelow-numbered_words number [] k d short = absurd (omega arith)
  IsBelow-numbered_words number (entry ∷ later) k d short =
      let below : IsBelow (number + length (entry ∷ later)) (numbered_from (number + 1) later) = λ k d short. let less = IsBelow-numbered_words (number + 1) later k d short in omega arith in
      IsBelow-with number (number + length (entry ∷ later)) (word entry) (numbered_from (number + 1) later) (omega arith) below k d short

  latest_number-below : (bound : ℕ) (words : List (Said A)) → IsBelow (bound + 1) words → latest_number words ≤ bound
  latest_number-below bound [] below = omega arith
  latest_number-below bound (said ∷ later) below =
      let less = below (length (said ∷ later) - 1) said (omega arith) in
      rw (slice_get-get_or (said ∷ later) (length (said ∷ later) - 1) said (omega arith)) (omega arith)

  -- the next value of a history keeps its number
  pub clamped_number-numbered_words : (history : History) (said : Said A) → said.number ≡ length history + 1 → clamped_number (numbered_words word history) said ≡ said
  clamped_number-numbered_words history said next =
      let below : IsBelow (length history + 1) (numbered_words word history) = λ k d short. let less = IsBelow-numbered_words 1 history k d short in omega arith in
      let least = latest_number-below (length history) (numbered_words word history) below in
      let same : max said.number (latest_number (numbered_words word history)) ≡ said.number = max-eq_left (omega arith) in
      ap (λ (number : ℕ). record { number = number; word = said.word }) same

module _ {A : Type 0} where
  -- numbers that never decrease still do not after `clamped_number` adds a value
  pub rises-clamped_number : (words : List (Said A)) (said : Said A) → IsNonDecreasingBy (λ (s : Said A). s.number) words → IsNonDecreasingBy (λ (s : Said A). s.number) (words ++ clamped_number words said ∷ [])
  rises-clamped_number words said rises =
      IsNonDecreasingBy-push (λ (s : Said A). s.number) words (clamped_number words said) rises
      (λ d some. rw (slice_get-get_or words (length words - 1) d (omega arith)) (le-max_right said.number (slice_index_or words (length words - 1) d).number))

  -- and so whether it is added or not
  pub rises-pushed : (added : Bool) (words items : List (Said A)) (said : Said A) (number : ℕ) → number ≡ max said.number (latest_number words) → IsNonDecreasingBy (λ (s : Said A). s.number) words
      → items ≡ (if added then words ++ record { number = number; word = said.word } ∷ [] else words) → IsNonDecreasingBy (λ (s : Said A). s.number) items
  rises-pushed true words items said number is rises pushed =
      let same : items ≡ words ++ clamped_number words said ∷ [] = pushed ∙ ap (λ (n : ℕ). words ++ record { number = n; word = said.word } ∷ []) is in
      subst (λ (items : List (Said A)). IsNonDecreasingBy (λ (s : Said A). s.number) items) (sym same) (rises-clamped_number words said rises)
  rises-pushed false words items said number is rises pushed = subst (λ (items : List (Said A)). IsNonDecreasingBy (λ (s : Said A). s.number) items) (sym pushed) rises
