-- One piece has one more member, or nothing changes.
use Rattle.std.proofs.Common.{List, refl, sym, subst, ◌∙◌, ap}
use Rattle.hippo_tables_keyed.specs.declared.pieces.Piece.{Piece}
use Rattle.hippo_tables_keyed.specs.Pieces.{AreFull}
use Rattle.hippo_tables_keyed.proofs.PiecesLemmas.{contents-kept, ends-kept, joined_put, AreFull-put}
use Rattle.hippo_tables_keyed.proofs.pieces.put_in.Goals as goal

pub returns-in-Err-clause-err : goal.returns-in-Err-clause-err
returns-in-Err-clause-err g c =
    let old : Piece g.row.T.Denot = c.index_mut.result.now in
    contents-kept c.args.pieces.now.items c.args.index old (record { members = c.insert.new.self; end = old.end }) c.requires.range (c.in-Err.ensures.items ∙ ap (λ (piece : Piece g.row.T.Denot). piece.members.items) c.index_mut.ensures.value)

pub returns-in-Err-clause-full : goal.returns-in-Err-clause-full
returns-in-Err-clause-full g c = subst (λ (lists : List (List g.row.T.Denot)). AreFull lists) (sym (returns-in-Err-clause-err g c)) c.requires.full

pub returns-in-Err-clause-ends : goal.returns-in-Err-clause-ends
returns-in-Err-clause-ends g c = ends-kept c.args.pieces.now.items c.args.index c.index_mut.result.now (record { members = c.insert.new.self; end = c.index_mut.result.now.end }) c.requires.range c.index_mut.ensures.value refl

pub returns-clause-ends : goal.returns-clause-ends
returns-clause-ends g c = ends-kept c.args.pieces.now.items c.args.index c.index_mut.result.now (record { members = c.insert.new.self; end = c.index_mut.result.now.end }) c.requires.range c.index_mut.ensures.value refl

pub returns-clause-ok : goal.returns-clause-ok
returns-clause-ok g c = joined_put c.args.pieces.now.items c.args.index c.args.place c.index_mut.result.now (record { members = c.insert.new.self; end = c.index_mut.result.now.end }) c.requires.range c.index_mut.ensures.value c.args.member c.requires.inside c.in_default.ensures.items

pub returns-clause-full : goal.returns-clause-full
returns-clause-full g c = AreFull-put c.args.pieces.now.items c.args.index c.args.place c.index_mut.result.now (record { members = c.insert.new.self; end = c.index_mut.result.now.end }) c.requires.range c.index_mut.ensures.value c.args.member c.requires.inside c.in_default.ensures.items c.requires.full
