use Rattle.hippo_policy.proofs.VerdictLemmas.{rules_verdict-table_rules}
use Rattle.hippo_policy.proofs.laws.gates_match_verdicts.Goals as goal

pub returns : goal.returns
returns c = rules_verdict-table_rules
