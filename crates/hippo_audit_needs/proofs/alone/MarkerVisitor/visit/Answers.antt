-- A combination that makes a row.
use Rattle.std.proofs.Common.{sym, ◌∙◌}
use Rattle.hippo_audit_needs.proofs.AloneLemmas.{marked-by}
use Rattle.hippo_audit_needs.proofs.alone.MarkerVisitor.visit.Goals as goal

pub returns-in_ok-mark : goal.returns-in_ok-mark
returns-in_ok-mark g c before are =
    marked-by (g.C.ChoiceView.choices c.args.self.now.choices.now) c.args.self.now.query.now c.args.self.now.sets.now c.args.self.now.tables.now before c.args.combo.now c.args.state.now c.mark.new.marks
    c.in_ok-row.row c.in_ok-places.places (sym c.passes.ensures ∙ c.if-passes.true) c.in_ok-row.ensures c.in_ok-places.ensures
    c.in_ok-mark.ensures are
