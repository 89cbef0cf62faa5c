use Rattle.hippo_rewrite.proofs.RulesInForce.{rows_fit-rules_at}
use Rattle.hippo_rewrite.proofs.laws.rows_fit_rules.Goals as goal

pub returns : goal.returns
returns c = rows_fit-rules_at
