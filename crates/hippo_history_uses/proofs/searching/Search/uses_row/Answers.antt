-- An audit of the row's key shares something exactly where the query used the row.
use Rattle.std.proofs.Common.{◌∙◌, ap, subst, [], List}
use Rattle.std.proofs.lemmas.Result.{IfOk-weaker}
use Rattle.hippo_values.specs.declared.values.Value.{Value}
use Rattle.hippo_model.specs.declared.audit.Audit.{Audit}
use Rattle.hippo_history_uses.specs.Conditions.{audit_of_rows, key_is}
use Rattle.hippo_history_uses.specs.Searching.{SharesThen, UsesThen, table_there}
use Rattle.hippo_history_uses.proofs.SearchLemmas.{uses_then}
use Rattle.hippo_history_uses.proofs.searching.Search.uses_row.Goals as goal

pub returns : goal.returns
returns c =
    IfOk-weaker c.shares-used.result (SharesThen c.args.self.now c.in_ok-audit.audit) (UsesThen c.args.self.now c.args.place c.args.kept.now)
    (λ used shares.
    uses_then c.audit_needs_what_it_has.ensures c.args.self.now c.args.place c.requires.seat c.get-schema.result.now c.args.kept.now used c.get-schema.ensures
    (subst (λ (audit : Audit). SharesThen c.args.self.now audit used)
    (c.in_ok-audit.ensures
    ∙ ap (audit_of_rows (table_there c.args.self.now c.args.place) c.args.self.now.asked.now.moment [])
    (c.in_ok-condition.ensures ∙ ap (λ (row : List Value). key_is c.get-schema.result.now.key row) c.as_slice.ensures)) shares))
    c.shares-used.ensures
