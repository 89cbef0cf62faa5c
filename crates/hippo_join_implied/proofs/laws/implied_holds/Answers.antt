-- By each kind of condition.
use Rattle.hippo_join_implied.proofs.ImpliedLemmas.{implied_holds}
use Rattle.hippo_join_implied.proofs.laws.implied_holds.Goals as goal

pub returns : goal.returns
returns c = implied_holds
