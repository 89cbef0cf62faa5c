-- A combination that qualifies, or one that does not.
use Rattle.std.proofs.Common.{sym, ◌∙◌}
use Rattle.hippo_eval.proofs.FoundLemmas.{tested-counts, tested-same}
use Rattle.hippo_eval.proofs.answers.TesterVisitor.visit.Goals as goal

pub returns-then-passes : goal.returns-then-passes
returns-then-passes g c before kept =
    let tester = c.args.self.now in
    tested-counts (g.C.ChoiceView.choices tester.choices.now) tester.query.now (g.V.Visitor.Keeps tester.visitor.now) before c.args.combo.now c.visit.new.state (sym c.passes.ensures ∙ c.if-passes.true) c.visit.result
    (c.visit.ensures _ kept)

pub returns-else-passes : goal.returns-else-passes
returns-else-passes g c before kept =
    let tester = c.args.self.now in
    tested-same (g.C.ChoiceView.choices tester.choices.now) tester.query.now (g.V.Visitor.Keeps tester.visitor.now) before c.args.combo.now c.args.state.now (sym c.passes.ensures ∙ c.if-passes.false) kept
