use Rattle.hippo_history_carry.proofs.VerdictLemmas.{carries_verdicts}
use Rattle.hippo_history_carry.proofs.laws.carries_verdicts.Goals as goal

pub returns : goal.returns
returns c = carries_verdicts
