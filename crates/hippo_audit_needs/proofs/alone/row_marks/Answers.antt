-- The visit begins without marks, and visits every combination that makes a row.
use Rattle.std.proofs.Common.{[]}
use Rattle.hippo_model.specs.Answers.{product}
use Rattle.hippo_eval.specs.Walks.{rows_of}
use Rattle.hippo_audit_needs.proofs.AloneLemmas.{marked-none, marked-counting}
use Rattle.hippo_audit_needs.proofs.alone.row_marks.Goals as goal

pub returns-then-branch : goal.returns-then-branch
returns-then-branch g c =
    let choices = g.C.ChoiceView.choices c.args.choices.now in
    marked-counting choices c.args.query.now c.args.sets.now c.args.tables.now (product (rows_of c.args.sets.now)) c.visit_by_plan.new.state
    (c.in_ok-visit_by_plan.ensures [] (marked-none choices c.args.query.now c.args.sets.now c.args.tables.now c.new-marks.result c.new-marks.ensures.empty) c.if-branch.true)

pub returns : goal.returns
returns g c =
    let choices = g.C.ChoiceView.choices c.args.choices.now in
    marked-counting choices c.args.query.now c.args.sets.now c.args.tables.now (product (rows_of c.args.sets.now)) c.walk_joined.new.state
    (c.in_ok-walk_joined.ensures [] (marked-none choices c.args.query.now c.args.sets.now c.args.tables.now c.new-marks-2.result c.new-marks-2.ensures.empty))
