use Rattle.hippo_rewrite.proofs.RulesInForce.{masked_column-verdict}
use Rattle.hippo_rewrite.proofs.laws.columns_show_verdicts.Goals as goal

pub returns : goal.returns
returns c = masked_column-verdict
