-- A list held in pieces.
use Rattle.std.specs.Prelude.{◌≡◌, ℕ, ◌+◌, ◌-◌, ◌<◌, ◌≤◌, Bool, true, false, List, [], ◌∷◌, length, map, take, slice_get, slice_index_or, ◌++◌}
use Rattle.std.specs.Option.{option_map_or}
use Rattle.std.specs.List.{flat_map}
use Rattle.std.specs.List.Sorted.{IsPartitionPoint, IsPartitionedBy}
use Rattle.std.specs.Ordering.{is_le, is_lt}
use Rattle.std.specs.declared.cmp.Ordering.{Ordering}
use Rattle.hippo_tables_keyed.specs.declared.pieces.Piece.{Piece}

-- the members of each piece
abbrev pub contents : {A : Type 0} → List (Piece A) → List (List A)
contents pieces = map (λ piece. piece.members.items) pieces

-- the members of all pieces, in order
abbrev pub all_members : {A : Type 0} → List (List A) → List A
all_members contents = flat_map (λ members. members) contents

-- the number of members before a piece
abbrev pub start_of : {A : Type 0} → List (List A) → ℕ → ℕ
start_of contents index = length (all_members (take index contents))

-- the number of members up to the end of each piece
abbrev pub ends_of : {A : Type 0} → ℕ → List (List A) → List ℕ
ends_of start [] = []
ends_of start (members ∷ rest) = (start + length members) ∷ ends_of (start + length members) rest

-- each piece stores its correct end
abbrev pub IsMarked : {A : Type 0} → List (Piece A) → Type 0
IsMarked pieces = map (λ piece. piece.end) pieces ≡ ends_of 0 (contents pieces)

-- no piece is empty
abbrev pub AreFull : {A : Type 0} → List (List A) → Type 0
AreFull [] = Unit {0}
AreFull (members ∷ rest) = (0 < length members) × AreFull rest

pub record IsWhole {A : Type 0} (pieces : List (Piece A)) (count : ℕ) : Type 0 where
  pub marked : IsMarked pieces
  pub full : AreFull (contents pieces)
  pub counted : count ≡ length (all_members (contents pieces))

-- a piece holds the member at a place, if there is one; `start` members come before the piece
pub record IsReached {A : Type 0} (contents : List (List A)) (place index start : ℕ) : Type 0 where
  pub begins : start ≡ start_of contents index
  pub low : start ≤ place
  pub reached : place < length (all_members contents)
      → (index < length contents) × (place < start + length (slice_index_or contents index []))

-- a piece is split in two
pub record IsCutInTwo {A : Type 0} (old lower upper : Piece A) : Type 0 where
  pub members : lower.members.items ++ upper.members.items ≡ old.members.items
  pub full : (0 < length lower.members.items) × (0 < length upper.members.items)
  pub ends : (lower.end + length upper.members.items ≡ old.end) × (upper.end ≡ old.end)

-- whether a piece begins with a member that is not above the wanted one
abbrev pub begins_low : {A : Type 0} → (A → Ordering) → List A → Bool
begins_low order [] = false
begins_low order (first ∷ rest) = is_le (order first)

-- whether a list is empty or ends with a member below the wanted one
abbrev pub ends_below : {A : Type 0} → (A → Ordering) → List A → Bool
ends_below order members =
    option_map_or (λ member. is_lt (order member)) (slice_get members (length members - 1)) true

-- if the pieces that begin low come first, there are `count` of them
abbrev pub PartsLow : {A : Type 0} → (A → Ordering) → List (Piece A) → ℕ → Type 0
PartsLow order pieces count = IsPartitionedBy (λ piece. begins_low order piece.members.items) pieces
    → IsPartitionPoint (λ piece. begins_low order piece.members.items ≡ true)
    (λ piece. begins_low order piece.members.items ≡ false) pieces count
