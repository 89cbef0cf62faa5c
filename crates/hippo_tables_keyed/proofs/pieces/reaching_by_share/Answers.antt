-- The likely piece holds the place.
use Rattle.std.proofs.Common.{arith}
use Rattle.std.proofs.lemmas.Bool.Decides.{nat_tests}
use Rattle.hippo_tables_keyed.proofs.PiecesLemmas.{IsReached-held}
use Rattle.hippo_tables_keyed.proofs.pieces.reaching_by_share.Goals as goal

pub returns-in-Some : goal.returns-in-Some
returns-in-Some g c = IsReached-held c.args.pieces.now c.requires c.args.place c.likely-index.result c.start-start.result c.in-Some.piece.now c.in-Some.ensures.lookup.3.0 c.in-Some.ensures.lookup.1 c.start-start.ensures (grind (arith, nat_tests, c.if-start-place.true)) (grind (arith, nat_tests, c.if-place-piece.true))
