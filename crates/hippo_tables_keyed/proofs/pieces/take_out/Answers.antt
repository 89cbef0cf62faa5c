-- A piece has one member less, or is removed.
use Rattle.std.proofs.Common.{◌≡◌, List, length, ◌∙◌, ap, sym, subst, arith}
use Rattle.std.proofs.lemmas.List.{nil_from_length}
use Rattle.hippo_tables_keyed.specs.declared.pieces.Piece.{Piece}
use Rattle.hippo_tables_keyed.specs.Pieces.{contents, all_members, AreFull}
use Rattle.hippo_tables_keyed.proofs.PiecesLemmas.{zero_from_test, some_from_test, joined_taken, AreFull-taken, joined_gone, AreFull-gone}
use Rattle.hippo_tables_keyed.proofs.pieces.take_out.Goals as goal

pub returns-then-is_empty-clause-joined : goal.returns-then-is_empty-clause-joined
returns-then-is_empty-clause-joined g c =
    let pieces : List (Piece g.row.T.Denot) = c.args.pieces.now.items in
    let old : Piece g.row.T.Denot = c.index_mut-piece.result.now in
    let new : Piece g.row.T.Denot = record { members = c.remove.new.self; end = old.end } in
    let read = c.index_mut-piece.ensures.value in
    let none : length new.members.items ≡ 0 = omega (arith, zero_from_test new.members.len c.if-is_empty.ensures, new.members.ok.0) in
    ap (λ (pieces : List (Piece g.row.T.Denot)). all_members (contents pieces)) c.remove-then-is_empty.ensures.items
    ∙ joined_gone pieces c.args.index c.args.place old new c.requires.range read (nil_from_length new.members.items none)
    ∙ joined_taken pieces c.args.index c.args.place old new c.requires.range read c.requires.inside c.remove.ensures.items

pub returns-then-is_empty-clause-full : goal.returns-then-is_empty-clause-full
returns-then-is_empty-clause-full g c =
    let old : Piece g.row.T.Denot = c.index_mut-piece.result.now in
    let new : Piece g.row.T.Denot = record { members = c.remove.new.self; end = old.end } in
    subst (λ (pieces : List (Piece g.row.T.Denot)). AreFull (contents pieces)) (sym c.remove-then-is_empty.ensures.items) (AreFull-gone c.args.pieces.now.items c.args.index c.args.place old new c.requires.range c.index_mut-piece.ensures.value c.requires.full)

pub returns-else-is_empty-clause-joined : goal.returns-else-is_empty-clause-joined
returns-else-is_empty-clause-joined g c =
    let old : Piece g.row.T.Denot = c.index_mut-piece.result.now in
    let new : Piece g.row.T.Denot = record { members = c.remove.new.self; end = old.end } in
    joined_taken c.args.pieces.now.items c.args.index c.args.place old new c.requires.range c.index_mut-piece.ensures.value c.requires.inside c.remove.ensures.items

pub returns-else-is_empty-clause-full : goal.returns-else-is_empty-clause-full
returns-else-is_empty-clause-full g c =
    let old : Piece g.row.T.Denot = c.index_mut-piece.result.now in
    let new : Piece g.row.T.Denot = record { members = c.remove.new.self; end = old.end } in
    AreFull-taken c.args.pieces.now.items c.args.index c.args.place old new c.requires.range c.index_mut-piece.ensures.value (omega (arith, some_from_test new.members.len c.if-is_empty.ensures, new.members.ok.0)) c.requires.full
