use Rattle.hippo_history_carry.proofs.WordLemmas.{carries_rules}
use Rattle.hippo_history_carry.proofs.laws.carries_rules.Goals as goal

pub returns : goal.returns
returns c = carries_rules
