-- The new member replaces the old one in the piece that is reached.
use Rattle.std.proofs.Common.{◌≡◌, ◌-◌, length, slice_set, slice_get, sym, ap, ◌∙◌, arith}
use Rattle.std.proofs.lemmas.Option.{get_or_from_slice_get}
use Rattle.hippo_tables_keyed.specs.Pieces.{contents, all_members}
use Rattle.hippo_tables_keyed.proofs.PiecesLemmas.{joined_written, IsWhole-written, member_reached}
use Rattle.hippo_tables_keyed.proofs.pieces.Pieces.replace.Goals as goal

pub invariant_of-self : goal.invariant_of-self
invariant_of-self g c =
    let pieces = c.self.inside.pieces.items in
    let reached = rw c.deref.ensures.value at c.reaching-index.ensures in
    let size : length (all_members (contents pieces)) ≡ length c.args.self.now = ap length c.self.view_is in
    IsWhole-written pieces c.args.place c.reaching-index.result.0 c.reaching-index.result.1 reached (omega (arith, size)) c.index_mut.result.now c.index_mut.ensures.value c.self.inside.count c.self.invariant c.exchange.new.piece c.args.member c.exchange.ensures.end c.exchange.ensures.members

pub returns-clause-set : goal.returns-clause-set
returns-clause-set g c =
    let pieces = c.self.inside.pieces.items in
    let reached = rw c.deref.ensures.value at c.reaching-index.ensures in
    let size : length (all_members (contents pieces)) ≡ length c.args.self.now = ap length c.self.view_is in
    joined_written pieces c.args.place c.reaching-index.result.0 c.reaching-index.result.1 reached (omega (arith, size)) c.index_mut.result.now c.index_mut.ensures.value c.exchange.new.piece c.args.member c.exchange.ensures.members
    ∙ ap (λ all. slice_set all c.args.place c.args.member) c.self.view_is

pub returns-clause-old : goal.returns-clause-old
returns-clause-old g c =
    let pieces = c.self.inside.pieces.items in
    let reached = rw c.deref.ensures.value at c.reaching-index.ensures in
    let size : length (all_members (contents pieces)) ≡ length c.args.self.now = ap length c.self.view_is in
    let at = get_or_from_slice_get c.index_mut.result.now.members.items (c.args.place - c.reaching-index.result.1) c.exchange.result c.exchange.result c.exchange.ensures.old in
    ap (λ all. slice_get all c.args.place) (sym c.self.view_is)
    ∙ member_reached pieces c.args.place c.reaching-index.result.0 c.reaching-index.result.1 reached (omega (arith, size)) c.index_mut.result.now c.index_mut.ensures.value c.exchange.result (sym at)
