-- The piece that is reached has one more member, and the ends of the pieces after it are
-- recomputed.
use Rattle.std.proofs.Common.{◌≡◌, List, sym, ap, ◌∙◌, subst, take}
use Rattle.hippo_tables_keyed.specs.declared.pieces.Piece.{Piece}
use Rattle.hippo_tables_keyed.specs.Pieces.{IsMarked}
use Rattle.hippo_tables_keyed.proofs.PiecesLemmas.{IsMarked-take, start_of-front}
use Rattle.hippo_tables_keyed.proofs.pieces.Pieces.insert.Goals as goal

pub mark-requires-clause-front : goal.mark-requires-clause-front
mark-requires-clause-front g c =
    let same : take c.reaching-index.result.0 c.deref_mut.result.now ≡ take c.reaching-index.result.0 c.self.inside.pieces.items = ap (take c.reaching-index.result.0) c.deref_mut.ensures.value ∙ c.in_ok-put_in.ensures.front in
    subst (λ (pieces : List (Piece g.row.T.Denot)). IsMarked pieces) (sym same) (IsMarked-take c.self.inside.pieces.items c.reaching-index.result.0 c.self.invariant.marked)

pub mark-requires-clause-begins : goal.mark-requires-clause-begins
mark-requires-clause-begins g c =
    let same : take c.reaching-index.result.0 c.deref_mut.result.now ≡ take c.reaching-index.result.0 c.self.inside.pieces.items = ap (take c.reaching-index.result.0) c.deref_mut.ensures.value ∙ c.in_ok-put_in.ensures.front in
    let reached = rw c.deref.ensures.value at c.reaching-index.ensures in
    reached.begins ∙ sym (start_of-front c.self.inside.pieces.items c.deref_mut.result.now c.reaching-index.result.0 same)
