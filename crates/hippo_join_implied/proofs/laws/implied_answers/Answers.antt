-- The same combinations count.
use Rattle.hippo_join_implied.proofs.ImpliedLemmas.{implied_answers}
use Rattle.hippo_join_implied.proofs.laws.implied_answers.Goals as goal

pub returns : goal.returns
returns c = implied_answers
