-- The table is that at the place.
use Rattle.std.proofs.Common.{◌≡◌, ◌∙◌, sym, []}
use Rattle.std.proofs.lemmas.Result.{IfOk-weaker}
use Rattle.hippo_model.specs.declared.audit.Audit.{Audit}
use Rattle.hippo_history_uses.specs.Conditions.{audit_of_rows}
use Rattle.hippo_history_uses.specs.Searching.{table_there}
use Rattle.hippo_history_uses.proofs.SharingLemmas.{got}
use Rattle.hippo_history_uses.proofs.searching.Search.audit_of.Goals as goal

pub returns : goal.returns
returns c =
    IfOk-weaker c.audit_of_rows.result
    (λ (audit : Audit). audit ≡ audit_of_rows c.get-table.result.now c.args.self.now.asked.now.moment c.new.result c.args.condition)
    (λ (audit : Audit). audit ≡ audit_of_rows (table_there c.args.self.now c.args.place) c.args.self.now.asked.now.moment [] c.args.condition)
    (λ audit is. is ∙ (λ i. audit_of_rows (sym (got c.args.self.now.asked.now.query.now.tables c.args.place c.get-table.result.now [] c.get-table.ensures) i) c.args.self.now.asked.now.moment (c.new.ensures i) c.args.condition))
    c.audit_of_rows.ensures
