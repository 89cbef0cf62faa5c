-- One combination more.
use Rattle.std.proofs.Common.{[], ◌∷◌, arith}
use Rattle.hippo_eval.proofs.FoundLemmas.{gathered-enough, gathered-more}
use Rattle.hippo_eval.proofs.gathering.RowFinderVisitor.visit.Goals as goal

pub returns-then-len-self : goal.returns-then-len-self
returns-then-len-self g c before are later =
    let finder = c.args.self.now in
    gathered-enough (g.C.ChoiceView.choices finder.choices.now) finder.query.now (g.G.Gatherer.Holds finder.gatherer.now) (g.G.Gatherer.answer finder.gatherer.now) finder.limit before c.args.state.now are
    (c.args.combo.now ∷ []) later (omega (arith, c.len.ensures are.front are.holds))

pub returns : goal.returns
returns g c before are =
    let finder = c.args.self.now in
    gathered-more (g.C.ChoiceView.choices finder.choices.now) finder.query.now (g.G.Gatherer.Holds finder.gatherer.now) (g.G.Gatherer.answer finder.gatherer.now) finder.limit before c.args.state.now are
    c.args.combo.now c.add.new.rows (omega (arith, c.len.ensures are.front are.holds)) c.in_ok-add.ensures
