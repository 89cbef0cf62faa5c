-- Every combination that counts is visited, and these make all rows.
use Rattle.std.proofs.Common.{List, [], subst}
use Rattle.hippo_model.specs.Answers.{product}
use Rattle.hippo_eval.specs.Walks.{rows_of}
use Rattle.hippo_audit_needs.specs.GroupMarks.{PlacedRow, AreMarkedGroups}
use Rattle.hippo_audit_needs.proofs.MarkLemmas.{placed-counting}
use Rattle.hippo_audit_needs.proofs.marking.marked_groups.Goals as goal

pub returns-then-branch : goal.returns-then-branch
returns-then-branch g c =
    subst (λ (found : List PlacedRow). AreMarkedGroups c.args.shape.now found c.visit_by_plan.new.state)
    (placed-counting (g.C.ChoiceView.choices c.args.choices.now) c.args.query.now c.args.sets.now c.args.tables.now (product (rows_of c.args.sets.now)))
    (c.in_ok-visit_by_plan.ensures [] (c.new-groups.ensures c.args.shape.now) c.if-branch.true)

pub returns : goal.returns
returns g c =
    subst (λ (found : List PlacedRow). AreMarkedGroups c.args.shape.now found c.walk_joined.new.state)
    (placed-counting (g.C.ChoiceView.choices c.args.choices.now) c.args.query.now c.args.sets.now c.args.tables.now (product (rows_of c.args.sets.now)))
    (c.in_ok-walk_joined.ensures [] (c.new-groups-2.ensures c.args.shape.now))
