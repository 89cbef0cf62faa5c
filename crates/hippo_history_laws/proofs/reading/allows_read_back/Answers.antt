use Rattle.hippo_history_laws.proofs.RuleTheorem.{allows_read_back}
use Rattle.hippo_history_laws.proofs.reading.allows_read_back.Goals as goal

pub returns : goal.returns
returns c = allows_read_back
