-- The member is written in the piece that is reached.
use Rattle.std.proofs.Common.{◌≡◌, length, slice_set, ap, ◌∙◌, refl, arith}
use Rattle.hippo_tables_keyed.specs.Pieces.{contents, all_members}
use Rattle.hippo_tables_keyed.proofs.PiecesLemmas.{joined_written, IsWhole-written}
use Rattle.hippo_tables_keyed.proofs.pieces.Pieces.set.Goals as goal

pub invariant_of-self : goal.invariant_of-self
invariant_of-self g c =
    let pieces = c.self.inside.pieces.items in
    let reached = rw c.deref.ensures.value at c.reaching-index.ensures in
    let size : length (all_members (contents pieces)) ≡ length c.args.self.now = ap length c.self.view_is in
    IsWhole-written pieces c.args.place c.reaching-index.result.0 c.reaching-index.result.1 reached (omega (arith, size)) c.index_mut.result.now c.index_mut.ensures.value c.self.inside.count c.self.invariant _ c.args.member refl refl

pub returns : goal.returns
returns g c =
    let pieces = c.self.inside.pieces.items in
    let reached = rw c.deref.ensures.value at c.reaching-index.ensures in
    let size : length (all_members (contents pieces)) ≡ length c.args.self.now = ap length c.self.view_is in
    joined_written pieces c.args.place c.reaching-index.result.0 c.reaching-index.result.1 reached (omega (arith, size)) c.index_mut.result.now c.index_mut.ensures.value _ c.args.member refl
    ∙ ap (λ all. slice_set all c.args.place c.args.member) c.self.view_is
