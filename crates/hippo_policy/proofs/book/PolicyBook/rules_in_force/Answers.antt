-- One more table.
use Rattle.std.proofs.Common.{sym, take}
use Rattle.std.proofs.lemmas.Option.{slice_get_within, get_or_from_slice_get}
use Rattle.hippo_model.specs.declared.schema.Schema.{Schema}
use Rattle.hippo_model.specs.declared.policy.TableRules.{TableRules}
use Rattle.hippo_model.proofs.ChangeLoops.{one_more}
use Rattle.hippo_policy.specs.Gates.{table_rules}
use Rattle.hippo_policy.proofs.book.PolicyBook.rules_in_force.Goals as goal

pub loop-place-preserved : goal.loop-place-preserved
loop-place-preserved c history kept =
    let rules_of : Schema → TableRules = table_rules (take c.args.n history) (record { purpose = c.args.purpose.now; recipient = c.args.recipient.now; moment = c.args.moment }) in
    let schemas = c.args.tables.now in
    let schema = c.get-schema.result.now in
    one_more rules_of schemas c.loop-place.place schema _ _ _
    (slice_get_within schemas c.loop-place.place schema c.get-schema.ensures)
    (sym (get_or_from_slice_get schemas c.loop-place.place schema schema c.get-schema.ensures))
    (c.loop-place.invariant history kept) c.in_ok-push.ensures.ok (c.in_ok-table_rules.ensures history kept)
