use Rattle.hippo_history_laws.proofs.KeyTheorem.{deletes_read_back}
use Rattle.hippo_history_laws.proofs.reading.deletes_read_back.Goals as goal

pub returns : goal.returns
returns c = deletes_read_back
