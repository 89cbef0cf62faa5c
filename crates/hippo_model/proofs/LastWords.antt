-- The last word of a history with one more entry.
use Rattle.std.proofs.Common.{◌≡◌, List, [], ◌∷◌, ◌++◌, Option, Some, None, refl}
use Rattle.hippo_model.specs.declared.entry.Entry.{Entry}
use Rattle.std.specs.Option.{option_or}
use Rattle.hippo_model.specs.Histories.{last_word}

option_or-assoc : {A : Type 0} (first second third : Option A) → option_or (option_or first second) third ≡ option_or first (option_or second third)
option_or-assoc None second third = refl
option_or-assoc (Some word) second third = refl

option_or-None : {A : Type 0} (word : Option A) → word ≡ option_or word None
option_or-None None = refl
option_or-None (Some word) = refl

-- the new entry's word, if it has one; else the last word so far
pub last_word-append : {A : Type 0} (word : Entry → Option A) (history : List Entry) (entry : Entry) → last_word word (history ++ entry ∷ []) ≡ option_or (word entry) (last_word word history)
last_word-append word [] entry = option_or-None (word entry)
last_word-append word (first ∷ later) entry = rw (last_word-append word later entry) (option_or-assoc (word entry) (last_word word later) (word first))
