-- A list whose members are changed one by one.
use Rattle.std.proofs.Common.{◌≡◌, ◌∙◌, refl, ℕ, ◌+◌, ◌<◌, List, [], ◌∷◌, ◌++◌, length, map, take, ap}
use Rattle.std.proofs.Math.ListN.{get_or}
use Rattle.std.specs.List.{AllWithin}
use Rattle.std.proofs.lemmas.List.{map_more}

-- one more member is changed
pub one_more : {X Y : Type 0} (change : X → Y) (members : List X) (i : ℕ) (member : X) (made longer : List Y) (new : Y)
    → i < length members → member ≡ get_or members i member → made ≡ map change (take i members)
    → longer ≡ made ++ new ∷ [] → new ≡ change member → longer ≡ map change (take (i + 1) members)
one_more change members i member made longer new within stands so_far pushed changed =
    let last : new ≡ change (get_or members i member) = changed ∙ ap change stands in
    rw (pushed, so_far, last, map_more change members i member within) refl

-- the members before an index are changed, and the others are not
abbrev pub AreChangedTo : {X : Type 0} → (X → Type 0) → (X → Type 0) → List X → ℕ → Type 0
AreChangedTo Before After xs i = AllWithin After xs 0 i × AllWithin Before xs i (length xs)
