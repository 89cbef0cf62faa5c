-- The upper half is inserted after the piece.
use Rattle.std.proofs.Common.{◌≤◌, length, sym, ap, ◌∙◌, subst, List, arith}
use Rattle.std.specs.Result.{IsOk}
use Rattle.hippo_tables_keyed.specs.declared.pieces.Piece.{Piece}
use Rattle.hippo_tables_keyed.specs.Pieces.{contents, all_members, IsMarked, AreFull}
use Rattle.hippo_tables_keyed.proofs.PiecesLemmas.{size_below_end, IsMarked-cut, AreFull-cut, all_members-cut}
use Rattle.hippo_tables_keyed.proofs.pieces.split.Goals as goal

pub cut-requires-clause-size : goal.cut-requires-clause-size
cut-requires-clause-size g c =
    let read = rw c.in-Ok.ensures.items at c.index_mut.ensures.value in
    subst (λ (piece : Piece g.row.T.Denot). length piece.members.items ≤ piece.end) (sym read) (size_below_end c.args.pieces.now.items c.requires.marked c.args.index c.index_mut.result.now c.requires.range)

pub returns-in-Some-clause-marked : goal.returns-in-Some-clause-marked
returns-in-Some-clause-marked g c =
    let read = rw c.in-Ok.ensures.items at c.index_mut.ensures.value in
    let fits : IsOk c.insert.result = c.insert.ensures.succeeds (omega (arith, c.in-Ok.ensures.ok)) in
    let items = rw (fits, c.in-Ok.ensures.items) at c.insert.ensures.items in
    subst (λ (pieces : List (Piece g.row.T.Denot)). IsMarked pieces) (sym items) (IsMarked-cut c.args.pieces.now.items c.args.index c.index_mut.result.now c.cut.new.piece c.in-Some.upper c.requires.range read c.in-Some.ensures c.requires.marked)

pub returns-in-Some-clause-full : goal.returns-in-Some-clause-full
returns-in-Some-clause-full g c =
    let read = rw c.in-Ok.ensures.items at c.index_mut.ensures.value in
    let fits : IsOk c.insert.result = c.insert.ensures.succeeds (omega (arith, c.in-Ok.ensures.ok)) in
    let items = rw (fits, c.in-Ok.ensures.items) at c.insert.ensures.items in
    subst (λ (pieces : List (Piece g.row.T.Denot)). AreFull (contents pieces)) (sym items) (AreFull-cut c.args.pieces.now.items c.args.index c.index_mut.result.now c.cut.new.piece c.in-Some.upper c.requires.range read c.in-Some.ensures c.requires.full)

pub returns-in-Some-clause-joined : goal.returns-in-Some-clause-joined
returns-in-Some-clause-joined g c =
    let read = rw c.in-Ok.ensures.items at c.index_mut.ensures.value in
    let fits : IsOk c.insert.result = c.insert.ensures.succeeds (omega (arith, c.in-Ok.ensures.ok)) in
    let items = rw (fits, c.in-Ok.ensures.items) at c.insert.ensures.items in
    ap (λ (pieces : List (Piece g.row.T.Denot)). all_members (contents pieces)) items ∙ all_members-cut c.args.pieces.now.items c.args.index c.index_mut.result.now c.cut.new.piece c.in-Some.upper c.requires.range read c.in-Some.ensures
