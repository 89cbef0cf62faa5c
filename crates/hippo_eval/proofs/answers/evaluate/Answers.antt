-- The walk begins with no combination, so with no row.
use Rattle.std.proofs.Common.{[]}
use Rattle.hippo_eval.proofs.FoundLemmas.{gathered-none}
use Rattle.hippo_eval.proofs.answers.evaluate.Goals as goal

pub returns : goal.returns
returns g c = c.answered.ensures _ (c.in_ok-walk.ensures [] (gathered-none _ _ _ _ c.start-rows.ensures))
