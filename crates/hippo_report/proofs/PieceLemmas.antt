-- Capacity for pieces that are appended one after the other.
use Rattle.std.proofs.Common.{◌≡◌, ◌∙◌, ◌+◌, ◌≤◌, ◌<◌, ◌++◌, ℕ, List, refl, append_assoc, length, take, drop, map, ap, arith}
use Rattle.std.proofs.lemmas.List.{length-append, drop_more, take-append-drop}
use Rattle.std.proofs.Math.ListN.{get_or}
use Rattle.std.proofs.Math.Seq.{take-append_seam}
use Rattle.hippo_values_text.specs.Printing.{KeepsFront}
use Rattle.std.specs.List.{concat}

-- if the whole fits in the capacity, so does a piece of it
pub piece_fits : (out piece rest old all : List ℕ) (room : ℕ) → out ++ (piece ++ rest) ≡ old ++ all
    → length old + length all ≤ room → length out + length piece ≤ room
piece_fits out piece rest old all room same fits =
    let sizes = ap length same in
    let left = length-append out (piece ++ rest) in
    let middle = length-append piece rest in
    let right = length-append old all in
    omega arith

-- the same for the next of a list of pieces
pub next_piece_fits : {A : Type 0} (text : A → List ℕ) (items : List A) (i : ℕ) (d : A) (out old : List ℕ) (room : ℕ)
    → i < length items → out ++ concat (map text (drop i items)) ≡ old ++ concat (map text items)
    → length old + length (concat (map text items)) ≤ room → length out + length (text (get_or items i d)) ≤ room
next_piece_fits text items i d out old room within same fits =
    let cut = ap (λ left. out ++ concat (map text left)) (drop_more items i d within) in
    let next : out ++ (text (get_or items i d) ++ concat (map text (drop (i + 1) items))) ≡ old ++ concat (map text items) = rw cut at same in
    piece_fits out (text (get_or items i d)) (concat (map text (drop (i + 1) items))) old (concat (map text items)) room next fits

-- the beginning of a text that begins with more
begins_with : (old piece rest new : List ℕ) → new ≡ (old ++ piece) ++ rest → take (length old) new ≡ old
begins_with old piece rest new e = rw (e, append_assoc old piece rest) (take-append_seam old (piece ++ rest))

-- after a text is extended, a text that begins with the new one also begins with the old one
pub keeps_front_after : (old piece mid new : List ℕ) → mid ≡ old ++ piece → KeepsFront mid new → KeepsFront old new
keeps_front_after old piece mid new e h =
    let front = ap (λ text. text ++ drop (length mid) new) (h ∙ e) in
    begins_with old piece (drop (length mid) new) new (rw (← front) (rw (take-append-drop (length mid) new) refl))
