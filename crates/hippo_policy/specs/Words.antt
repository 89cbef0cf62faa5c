-- The values that the entries of a history set for a key, each with its entry's number.
use Rattle.std.specs.Prelude.{ℕ, ◌-◌, max, slice_get, Bool, List, [], ◌∷◌, ◌++◌, length, take, Option, if◌then◌else◌, None, nat_le, filter_map, option_map}
use Rattle.std.specs.Bool.{then_some}
use Rattle.std.specs.List.{enumerate_from}
use Rattle.std.specs.Option.{option_or, option_map_or}
use Rattle.std.specs.HashMap.{get}
use Rattle.hippo_model.specs.declared.entry.Entry.{Entry}
use Rattle.hippo_model.specs.Terms.{History}
pub use Rattle.hippo_policy.specs.declared.last_words.LastWords.{LastWords}
pub use Rattle.hippo_policy.specs.declared.last_words.Said.{Said}

-- the value that each entry sets for the key, with the entry's number
abbrev pub numbered_words : {A : Type 0} → (Entry → Option A) → History → List (Said A)
numbered_words word history =
    filter_map (λ (number, entry). option_map
    (λ said. record { number = number; word = said }) (word entry))
    (enumerate_from 1 history)

-- the last value up to an entry number
abbrev pub latest : {A : Type 0} → ℕ → List (Said A) → Option A
latest n [] = None
latest n (said ∷ later) = option_or (latest n later) (then_some (nat_le said.number n) said.word)

-- the values that are kept for a key
abbrev pub kept_words : {K A : Type 0} → (K → K → Bool) → LastWords K A → K → List (Said A)
kept_words same kept key = option_map_or (λ words. words.said.items) (get same kept.words key) []

-- the number of the last value; 0 if there is none
abbrev pub latest_number : {A : Type 0} → List (Said A) → ℕ
latest_number words = option_map_or (λ said. said.number) (slice_get words (length words - 1)) 0

-- the next value, its number raised to the last one if it is below; the entries of a history have
-- increasing numbers, so that this changes none of them
abbrev pub clamped_number : {A : Type 0} → List (Said A) → Said A → Said A
clamped_number words said =
    record { number = max said.number (latest_number words); word = said.word }

-- one more value, if one is set
abbrev pub with_word : {A : Type 0} → Bool → Said A → List (Said A) → List (Said A)
with_word is_said said words = if is_said then words ++ clamped_number words said ∷ [] else words

-- the last value removed, if one was set
abbrev pub without_word : {A : Type 0} → Bool → List (Said A) → List (Said A)
without_word was_said words = if was_said then take (length words - 1) words else words
