-- Each status is listed.
use Rattle.hippo_history_top.proofs.StatusLemmas.{status-listed, refusal-listed, missing-listed}
use Rattle.hippo_history_top.proofs.top.history_top.Goals as goal

pub returns-clause-status : goal.returns-clause-status
returns-clause-status g c = status-listed c.show.result _ c.show.ensures.status c.status-2.ensures

pub returns-in_default-asked-clause-status : goal.returns-in_default-asked-clause-status
returns-in_default-asked-clause-status g c = refusal-listed c.refuse.result _ _ _ _ _ _ c.refuse.ensures.says c.status-in_default-asked.ensures

pub returns-then-not-has-clause-status : goal.returns-then-not-has-clause-status
returns-then-not-has-clause-status g c = missing-listed c.miss.result _ _ _ _ _ _ c.miss.ensures.says c.status-then-not-has.ensures
