-- Bytes that a loop over members appends.
use Rattle.std.proofs.Common.{◌≡◌, ℕ, ◌+◌, ◌<◌, List, [], ◌∷◌, ◌++◌, length, get_or, take, sym, ap, ◌∙◌, append_assoc}
use Rattle.std.specs.List.{flat_map}
use Rattle.std.proofs.lemmas.Grind.{flat_map-append}
use Rattle.std.proofs.lemmas.List.{append-nil, take_more}

-- those of one more member
pub written_more : {A : Type 0} (bytes : A → List ℕ) (members : List A) (i : ℕ) (member : A) (front now longer : List ℕ) → i < length members
    → member ≡ get_or members i member → now ≡ front ++ flat_map bytes (take i members) → longer ≡ now ++ bytes member
    → longer ≡ front ++ flat_map bytes (take (i + 1) members)
written_more {A} bytes members i member front now longer within read so_far written =
    let more : take (i + 1) members ≡ take i members ++ member ∷ [] = take_more members i member within ∙ ap (λ (x : A). take i members ++ x ∷ []) (sym read) in
    written ∙ ap (λ (l : List ℕ). l ++ bytes member) so_far
    ∙ append_assoc front (flat_map bytes (take i members)) (bytes member)
    ∙ ap (λ (l : List ℕ). front ++ l) (ap (λ (l : List ℕ). flat_map bytes (take i members) ++ l) (sym (append-nil (bytes member)))
    ∙ sym (flat_map-append bytes (take i members) (member ∷ [])) ∙ ap (flat_map bytes) (sym more))
