-- The first tuple that is needed is the first that serves, in each history that has these rules,
-- rows and choices.
use Rattle.hippo_audit_needs.proofs.ExaminingLemmas.{needed-serves-first}
use Rattle.hippo_audit_needs.proofs.sharing.shared_of.Goals as goal

pub returns : goal.returns
returns g c =
    needed-serves-first c.needed_serves_first.ensures c.args.query.now c.args.audit.now c.args.rules.now c.args.query_sets.now c.args.audit_sets.now (g.C.ChoiceView.choices c.args.choices.now)
    _ _ c.first_needed-shared.result c.in_ok-masked.ensures c.in_ok-seen.ensures c.first_needed-shared.ensures
