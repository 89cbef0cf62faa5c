-- The piece begins at or before the place, and ends after it.
use Rattle.std.proofs.Common.{ap, arith}
use Rattle.hippo_tables_keyed.specs.declared.pieces.Piece.{Piece}
use Rattle.hippo_tables_keyed.proofs.PiecesLemmas.{IsReached-held}
use Rattle.hippo_tables_keyed.proofs.pieces.holding.Goals as goal

pub returns-then-place-pieces : goal.returns-then-place-pieces
returns-then-place-pieces g c = IsReached-held c.args.pieces.now c.requires c.args.place c.args.index c.start-start.result c.index-pieces-index.result (omega (arith, c.if-index-pieces.false)) c.index-pieces-index.is c.start-start.ensures (omega (arith, c.if-start-place.true)) (omega (arith, c.if-place-pieces.true, ap (λ (piece : Piece g.row.T.Denot). piece.end) c.index-pieces-index.is))
