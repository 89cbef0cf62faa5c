-- The tuples that the marks name are the needed ones. If no combination of the audit's rows counts,
-- none is needed.
use Rattle.std.proofs.Common.{List, map, ◌≡◌, ◌∙◌}
use Rattle.std.specs.Prelude.{Bool, Option}
use Rattle.hippo_model.specs.declared.audit.SharedRow.{SharedRow}
use Rattle.hippo_model.specs.declared.query.Form.TheVariants.{Distinct}
use Rattle.hippo_audit_search.specs.Candidates.{AreCandidates, first_passing}
use Rattle.hippo_audit_search.specs.Needs.{needs_by}
use Rattle.hippo_audit_common.specs.Commons.{common_tables, place_in}
use Rattle.hippo_audit_needs.proofs.AloneLemmas.{needed-are, none-needed, ok-by}
use Rattle.hippo_audit_needs.proofs.alone.first_alone.Goals as goal

pub returns-then-not-branch : goal.returns-then-not-branch
returns-then-not-branch g c =
    none-needed (g.C.ChoiceView.choices c.args.compared.now.audited.now.choices.now) c.args.compared.now.query.now Distinct c.args.compared.now.audited.now.audit.now c.args.compared.now.seen.now c.args.compared.now.audited.now.query_sets.now c.args.compared.now.audited.now.audit_sets.now
    (c.in_ok-audit_has_any.ensures c.if-not-branch.true)

pub returns : goal.returns
returns g c =
    let choices = g.C.ChoiceView.choices c.args.compared.now.audited.now.choices.now in
    let query = c.args.compared.now.query.now in
    let audit = c.args.compared.now.audited.now.audit.now in
    let candidates = c.in_ok-candidates.candidates.keys in
    ok-by
    (λ (shared : Option (List SharedRow)). (test : List SharedRow → Bool) → AreCandidates test audit.tables c.args.compared.now.audited.now.audit_sets.now (common_tables query.tables audit.tables) candidates
    → shared ≡ first_passing test choices query audit c.args.compared.now.seen.now c.args.compared.now.audited.now.query_sets.now c.args.compared.now.audited.now.audit_sets.now)
    (λ (shared : Option (List SharedRow)). shared ≡ first_passing (needs_by choices query Distinct c.args.compared.now.audited.now.query_sets.now) choices query audit c.args.compared.now.seen.now c.args.compared.now.audited.now.query_sets.now c.args.compared.now.audited.now.audit_sets.now)
    (λ shared told. told (needs_by choices query Distinct c.args.compared.now.audited.now.query_sets.now)
    (needed-are choices query audit.tables c.args.compared.now.audited.now.query_sets.now c.args.compared.now.audited.now.audit_sets.now c.requires.query_sets c.requires.audit_sets c.requires.rows c.know_order.ensures
    c.in_ok-marks.marks c.in_ok-candidates.ensures.order c.deref.result.now
    (c.deref.ensures.value ∙ c.in_ok-common.ensures.query ∙ (λ i. map (place_in (c.as_slice.ensures i)) (common_tables (c.as_slice.ensures i) (c.as_slice-tables.ensures i))))
    c.in_ok-marks.ensures candidates c.in_ok-candidates.ensures.places))
    c.first_of.result c.first_of.ensures
