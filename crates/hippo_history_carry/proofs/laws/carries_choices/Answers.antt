use Rattle.hippo_history_carry.proofs.WordLemmas.{carries_choices}
use Rattle.hippo_history_carry.proofs.laws.carries_choices.Goals as goal

pub returns : goal.returns
returns c = carries_choices
