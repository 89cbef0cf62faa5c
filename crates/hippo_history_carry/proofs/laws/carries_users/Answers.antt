use Rattle.hippo_history_carry.proofs.WordLemmas.{carries_users}
use Rattle.hippo_history_carry.proofs.laws.carries_users.Goals as goal

pub returns : goal.returns
returns c = carries_users
