-- If an audit of the patient's number shares nothing, the query used no row about the patient.
use Rattle.std.proofs.Common.{◌∙◌, ap, subst, []}
use Rattle.std.proofs.lemmas.Result.{IfOk-weaker}
use Rattle.hippo_model.specs.declared.audit.Audit.{Audit}
use Rattle.hippo_history_uses.specs.Conditions.{audit_of_rows}
use Rattle.hippo_history_uses.specs.Searching.{SharesThen, UsesAny, table_there}
use Rattle.hippo_history_uses.proofs.SearchLemmas.{uses_any}
use Rattle.hippo_history_uses.proofs.searching.Search.uses_any.Goals as goal

pub returns : goal.returns
returns c =
    IfOk-weaker c.shares-used.result (SharesThen c.args.self.now c.in_ok-audit.audit) (UsesAny c.args.self.now c.args.place)
    (λ used shares.
    uses_any c.audit_needs_what_it_has.ensures c.args.self.now c.args.place c.requires.seat c.args.subject used c.requires.subject
    (subst (λ (audit : Audit). SharesThen c.args.self.now audit used)
    (c.in_ok-audit.ensures ∙ ap (audit_of_rows (table_there c.args.self.now c.args.place) c.args.self.now.asked.now.moment []) c.number_is-condition.ensures) shares))
    c.shares-used.ensures
