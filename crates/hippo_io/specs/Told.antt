-- The effect of a call on the bytes of a source or a sink, if these are known.
use Rattle.std.specs.Prelude.{◌≡◌, ℕ, ◌≤◌, List, [], ◌++◌, length, take, drop, Option, Some}

-- if the old bytes are known, the new ones are the same
abbrev pub Keeps : Option (List ℕ) → Option (List ℕ) → Type 0
Keeps old new = (told : List ℕ) → old ≡ Some told → new ≡ Some told

-- if the old bytes are known, the first n of them are at the front of the buffer, and the others
-- are left
abbrev pub Takes : Option (List ℕ) → Option (List ℕ) → ℕ → List ℕ → Type 0
Takes old new n buffer =
    (told : List ℕ) → old ≡ Some told → (take n told ≡ take n buffer) × (new ≡ Some (drop n told))

-- no bytes are left, or they are not known
abbrev pub IsAtEnd : Option (List ℕ) → Type 0
IsAtEnd known = (told : List ℕ) → known ≡ Some told → told ≡ []

-- if the old bytes are known, the new ones are those followed by these
abbrev pub Appends : Option (List ℕ) → Option (List ℕ) → List ℕ → Type 0
Appends old new bytes = (told : List ℕ) → old ≡ Some told → new ≡ Some (told ++ bytes)

-- if the old bytes are known, the new ones are those followed by a prefix of these
abbrev pub AppendsFront : Option (List ℕ) → Option (List ℕ) → List ℕ → Type 0
AppendsFront old new bytes = (n : ℕ) × Appends old new (take n bytes)

-- if the old bytes are known, the first n of them now follow the others, and the rest is left
abbrev pub TakesAfter : Option (List ℕ) → Option (List ℕ) → ℕ → List ℕ → List ℕ → Type 0
TakesAfter old new n others together =
    (told : List ℕ) → old ≡ Some told
    → (n ≤ length told) × (together ≡ others ++ take n told) × (new ≡ Some (drop n told))
