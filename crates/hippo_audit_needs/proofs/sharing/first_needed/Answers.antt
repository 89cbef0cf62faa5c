-- The first tuple that a plain query shares is the first that it needs.
use Rattle.hippo_audit_needs.proofs.ExaminingLemmas.{shared-needed}
use Rattle.hippo_audit_needs.proofs.sharing.first_needed.Goals as goal

pub returns-in-Plain : goal.returns-in-Plain
returns-in-Plain g c =
    rw c.in-Plain.is (shared-needed (g.C.ChoiceView.choices c.args.compared.now.audited.now.choices.now) c.args.compared.now.query.now c.args.compared.now.audited.now.audit.now c.args.compared.now.seen.now c.args.compared.now.audited.now.query_sets.now c.args.compared.now.audited.now.audit_sets.now c.first_shared.result c.first_shared.ensures)
