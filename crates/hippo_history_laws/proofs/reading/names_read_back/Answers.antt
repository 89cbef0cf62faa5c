use Rattle.hippo_history_laws.proofs.ReadingTheorem.{names_read_back}
use Rattle.hippo_history_laws.proofs.reading.names_read_back.Goals as goal

pub returns : goal.returns
returns c = names_read_back
