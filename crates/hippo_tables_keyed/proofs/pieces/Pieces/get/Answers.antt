-- The member is in the piece that is reached.
use Rattle.std.proofs.Common.{◌≡◌, length, slice_get, sym, ap, ◌∙◌, arith}
use Rattle.hippo_tables_keyed.specs.Pieces.{contents, all_members}
use Rattle.hippo_tables_keyed.proofs.PiecesLemmas.{member_reached}
use Rattle.hippo_tables_keyed.proofs.pieces.Pieces.get.Goals as goal

pub returns : goal.returns
returns g c =
    let pieces = c.self.inside.pieces.items in
    let reached = rw c.deref.ensures.value at c.reaching-index.ensures in
    let size : length (all_members (contents pieces)) ≡ length c.args.self.now = ap length c.self.view_is in
    ap (λ all. slice_get all c.args.place) (sym c.self.view_is)
    ∙ member_reached pieces c.args.place c.reaching-index.result.0 c.reaching-index.result.1 reached (omega (arith, size)) c.index.result.now c.index.ensures c.index-2.result.now c.index-2.ensures
