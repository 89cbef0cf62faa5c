use Rattle.hippo_report.proofs.PieceLemmas.{next_piece_fits}
use Rattle.hippo_report.proofs.pieces.append_each.Goals as goal

pub returns-in_err-append-clause-room : goal.returns-in_err-append-clause-room
returns-in_err-append-clause-room g c =
    λ fits.
    let ok = c.in_err-append.ensures.room (next_piece_fits (λ piece. piece.now) c.args.pieces.now c.loop-piece.piece-index _ c.loop-piece.out c.args.out.now g.row.ROOM c.loop-piece-test.true c.loop-piece.invariant.0 fits) in
    absurd cc
