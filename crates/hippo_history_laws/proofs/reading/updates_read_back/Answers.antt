use Rattle.hippo_history_laws.proofs.ChangeTheorem.{updates_read_back}
use Rattle.hippo_history_laws.proofs.reading.updates_read_back.Goals as goal

pub returns : goal.returns
returns c = updates_read_back
