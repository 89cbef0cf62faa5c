use Rattle.hippo_history_laws.proofs.RowTheorem.{inserts_read_back}
use Rattle.hippo_history_laws.proofs.reading.inserts_read_back.Goals as goal

pub returns : goal.returns
returns c = inserts_read_back
