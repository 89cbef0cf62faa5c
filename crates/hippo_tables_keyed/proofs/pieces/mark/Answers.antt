-- One more piece has its end stored.
use Rattle.std.proofs.Common.{◌≡◌, ℕ, suc, ◌+◌, ◌<◌, List, [], length, get_or, set, sym, ap, ◌∙◌, refl, add-one, arith}
use Rattle.std.proofs.lemmas.List.{length-map}
use Rattle.hippo_tables_keyed.specs.declared.pieces.Piece.{Piece}
use Rattle.hippo_tables_keyed.specs.Pieces.{contents, all_members, start_of}
use Rattle.hippo_tables_keyed.proofs.PiecesLemmas.{piece_at, contents-kept, IsMarked-more, start_of-next, start_of-within}
use Rattle.hippo_tables_keyed.proofs.pieces.mark.Goals as goal

pub overflow_add-end : goal.overflow_add-end
overflow_add-end g c =
    let pieces : List (Piece g.row.T.Denot) = c.loop-place.pieces in
    let place : ℕ = c.loop-place.place in
    let piece : Piece g.row.T.Denot = get_or pieces place c.index-pieces-place.result in
    let range : place < length pieces = omega arith in
    let inside : place < length (contents pieces) = omega (arith, length-map pieces (λ (piece : Piece g.row.T.Denot). piece.members.items)) in
    omega (arith, piece.members.ok.0, ap length (piece_at pieces place c.index-pieces-place.result range), start_of-next (contents pieces) place inside, start_of-within (contents pieces) (suc place), ap (λ (lists : List (List g.row.T.Denot)). length (all_members lists)) c.loop-place.invariant.kept)

pub loop-place-preserved : goal.loop-place-preserved
loop-place-preserved g c =
    let pieces : List (Piece g.row.T.Denot) = c.loop-place.pieces in
    let place : ℕ = c.loop-place.place in
    let read : Piece g.row.T.Denot = c.index-pieces-place-in-loop-place.result in
    let piece : Piece g.row.T.Denot = get_or pieces place read in
    let first : Piece g.row.T.Denot = get_or pieces place c.index-pieces-place.result in
    let new : Piece g.row.T.Denot = record { members = piece.members; end = c.loop-place.end + c.len-end.result } in
    let range : place < length pieces = omega arith in
    let inside : place < length (contents pieces) = omega (arith, length-map pieces (λ (piece : Piece g.row.T.Denot). piece.members.items)) in
    let kept : contents (set pieces place new) ≡ contents pieces = contents-kept pieces place read new range refl in
    let size : c.len-end.result ≡ length (get_or (contents pieces) place []) = omega (arith, first.members.ok.0, ap length (piece_at pieces place c.index-pieces-place.result range)) in
    let ends : new.end ≡ start_of (contents pieces) place + length new.members.items = omega (arith, size, ap length (piece_at pieces place read range)) in
    let next : c.loop-place.end + c.len-end.result ≡ start_of (contents pieces) (place + 1) = omega (arith, size, ap (start_of (contents pieces)) (add-one place), start_of-next (contents pieces) place inside) in
    record {
      marked = IsMarked-more pieces place new range c.loop-place.invariant.marked ends;
      end = next ∙ ap (λ (lists : List (List g.row.T.Denot)). start_of lists (place + 1)) (sym kept);
      kept = kept ∙ c.loop-place.invariant.kept;
    }
