-- Laws on valid histories.
use Rattle.std.specs.Prelude.{◌≡◌, ◌+◌, Bool, true, ◌&&◌, [], ◌∷◌, ◌++◌, Some, slice_get}
use Rattle.hippo_model.specs.declared.entry.Entry.{Entry}
use Rattle.hippo_model.specs.Terms.{History, Meaning, Place}
use Rattle.hippo_model.specs.Histories.{before_entry}
use Rattle.hippo_model.specs.Validity.{may_follow, is_valid}

-- each entry that may follow a valid history preserves the property
abbrev pub IsKeptByEach : Meaning → (History → Bool) → Type 0
IsKeptByEach meaning holds =
    (history : History) (entry : Entry) → is_valid meaning history ≡ true → holds history ≡ true
    → may_follow meaning history entry ≡ true → holds (history ++ entry ∷ []) ≡ true

-- a property that holds for the empty history, and that each entry that may follow preserves, holds
-- for each valid history
abbrev pub InvariantHolds : Type 0
InvariantHolds =
    (meaning : Meaning) (holds : History → Bool) → holds [] ≡ true → IsKeptByEach meaning holds
    → (history : History) → is_valid meaning history ≡ true → holds history ≡ true

-- a history with one more entry is valid exactly when the history is valid and the entry may follow
-- it
abbrev pub ValidWithOneMore : Type 0
ValidWithOneMore =
    (meaning : Meaning) (history : History) (entry : Entry)
    → is_valid meaning (history ++ entry ∷ [])
    ≡ (is_valid meaning history && may_follow meaning history entry)

-- a prefix of a valid history is valid
abbrev pub FrontIsValid : Type 0
FrontIsValid =
    (meaning : Meaning) (front rest : History) → is_valid meaning (front ++ rest) ≡ true
    → is_valid meaning front ≡ true

-- in a valid history the entry at an index, from 0, has the index plus 1 as its number
abbrev pub EntryHasItsNumber : Type 0
EntryHasItsNumber =
    (meaning : Meaning) (history : History) → is_valid meaning history ≡ true
    → (place : Place) (entry : Entry) → slice_get history place ≡ Some entry → entry.seq ≡ place + 1

-- the entries before one that may follow a history are that history
abbrev pub EntriesBefore : Type 0
EntriesBefore =
    (meaning : Meaning) (history : History) (entry : Entry)
    → may_follow meaning history entry ≡ true
    → (later : History) → before_entry entry (history ++ entry ∷ later) ≡ history
