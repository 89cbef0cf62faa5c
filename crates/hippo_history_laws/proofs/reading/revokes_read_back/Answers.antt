use Rattle.hippo_history_laws.proofs.RuleTheorem.{revokes_read_back}
use Rattle.hippo_history_laws.proofs.reading.revokes_read_back.Goals as goal

pub returns : goal.returns
returns c = revokes_read_back
