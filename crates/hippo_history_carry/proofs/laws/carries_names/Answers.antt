use Rattle.hippo_history_carry.proofs.WordLemmas.{carries_names}
use Rattle.hippo_history_carry.proofs.laws.carries_names.Goals as goal

pub returns : goal.returns
returns c = carries_names
