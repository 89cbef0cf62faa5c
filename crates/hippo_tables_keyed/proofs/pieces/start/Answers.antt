-- A piece begins at the end of the one before it.
use Rattle.std.proofs.Common.{suc, ◌≡◌, ◌-◌, arith, ap, ◌∙◌}
use Rattle.hippo_tables_keyed.specs.Pieces.{contents, start_of}
use Rattle.hippo_tables_keyed.proofs.PiecesLemmas.{end_of_piece}
use Rattle.hippo_tables_keyed.proofs.pieces.start.Goals as goal

pub returns-else-index-eq0 : goal.returns-else-index-eq0
returns-else-index-eq0 g c =
    let same : suc (c.args.index - 1) ≡ c.args.index = omega arith in
    end_of_piece c.args.pieces.now c.requires.marked (c.args.index - 1) c.index-pieces-index.result (omega arith) ∙ ap (start_of (contents c.args.pieces.now)) same
