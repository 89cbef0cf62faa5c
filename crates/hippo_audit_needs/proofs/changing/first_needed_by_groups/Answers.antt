-- The places that the marks give are those of the tuples that the query needs. If no combination of
-- the audit's rows counts, none is needed.
use Rattle.std.proofs.Common.{◌≡◌, List, map, subst, ◌∙◌}
use Rattle.std.proofs.lemmas.Result.{IfOk-weaker}
use Rattle.hippo_model.specs.declared.query.Form.TheVariants.{Grouped}
use Rattle.hippo_model.specs.Answers.{product}
use Rattle.hippo_model.specs.Masking.{Choices}
use Rattle.hippo_model.specs.Terms.{Place}
use Rattle.hippo_eval.specs.Walks.{rows_of}
use Rattle.hippo_audit_needs.proofs.AloneLemmas.{none-needed}
use Rattle.hippo_audit_search.specs.Needs.{needs_by}
use Rattle.hippo_audit_common.specs.Commons.{common_tables, place_in}
use Rattle.hippo_audit_needs.specs.GroupMarks.{placed_rows, AreMarkedGroups}
use Rattle.hippo_audit_needs.proofs.ChangingTheorem.{changing_are}
use Rattle.hippo_audit_needs.proofs.changing.first_needed_by_groups.Goals as goal

pub returns-then-not-branch : goal.returns-then-not-branch
returns-then-not-branch g c =
    none-needed (g.C.ChoiceView.choices c.args.compared.now.audited.now.choices.now) c.args.compared.now.query.now (Grouped c.args.shape.now) c.args.compared.now.audited.now.audit.now c.args.compared.now.seen.now c.args.compared.now.audited.now.query_sets.now c.args.compared.now.audited.now.audit_sets.now
    (c.in_ok-audit_has_any.ensures c.if-not-branch.true)

pub returns : goal.returns
returns g c =
    let choices : Choices = g.C.ChoiceView.choices c.args.compared.now.audited.now.choices.now in
    let tables : c.deref.result.now ≡ map (place_in c.args.compared.now.query.now.tables) (common_tables c.args.compared.now.query.now.tables c.args.compared.now.audited.now.audit.now.tables) =
    c.deref.ensures.value ∙ c.in_ok-common.ensures.query
    ∙ (λ i. map (place_in (c.as_slice.ensures i)) (common_tables (c.as_slice.ensures i) (c.as_slice-tables.ensures i))) in
    let marked = subst (λ (places : List Place). AreMarkedGroups c.args.shape.now
    (placed_rows choices c.args.compared.now.query.now c.args.compared.now.audited.now.query_sets.now places (product (rows_of c.args.compared.now.audited.now.query_sets.now))) c.in_ok-groups.groups) tables c.in_ok-groups.ensures in
    let are = changing_are choices c.args.compared.now.query.now c.args.shape.now c.args.compared.now.audited.now.audit.now.tables c.args.compared.now.audited.now.query_sets.now c.args.compared.now.audited.now.audit_sets.now c.requires.query_sets c.requires.audit_sets
    c.requires.rows c.know_order.ensures c.in_ok-groups.groups marked c.in_ok-candidates.candidates.keys c.in_ok-candidates.ensures in
    IfOk-weaker c.first_of.result _ _ (λ shared is. is (needs_by choices c.args.compared.now.query.now (Grouped c.args.shape.now) c.args.compared.now.audited.now.query_sets.now) are) c.first_of.ensures
