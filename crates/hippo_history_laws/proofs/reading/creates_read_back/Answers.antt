use Rattle.hippo_history_laws.proofs.TableTheorem.{creates_read_back}
use Rattle.hippo_history_laws.proofs.reading.creates_read_back.Goals as goal

pub returns : goal.returns
returns c = creates_read_back
