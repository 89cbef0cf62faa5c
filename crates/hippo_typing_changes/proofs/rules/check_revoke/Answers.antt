use Rattle.hippo_typing_changes.proofs.RuleLemmas.{revoked}
use Rattle.hippo_typing_changes.proofs.rules.check_revoke.Goals as goal

pub returns : goal.returns
returns c =
    revoked c.args.catalog.now.names c.args.purpose.now c.args.recipient.now c.args.table.now c.args.columns.now c.check_rule.result c.check_rule.ensures
