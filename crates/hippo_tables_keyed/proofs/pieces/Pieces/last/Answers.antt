-- The last member is at the end of the last piece.
use Rattle.std.proofs.Common.{◌-◌, length, slice_get, ap, ◌∙◌}
use Rattle.hippo_tables_keyed.proofs.PiecesLemmas.{last_member}
use Rattle.hippo_tables_keyed.proofs.pieces.Pieces.last.Goals as goal

pub returns : goal.returns
returns g c =
    let found = rw c.deref.ensures.value at c.in_ok-last.ensures.value in
    let last = rw c.deref-2.ensures.value at c.last-2.ensures.value in
    last ∙ last_member c.self.inside.pieces.items c.self.invariant.full c.in_ok-last.field-0.now found
    ∙ ap (λ members. slice_get members (length members - 1)) c.self.view_is
