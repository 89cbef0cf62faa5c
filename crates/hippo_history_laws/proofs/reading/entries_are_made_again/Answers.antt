use Rattle.hippo_history_laws.proofs.EntryTheorem.{entries_are_made_again}
use Rattle.hippo_history_laws.proofs.reading.entries_are_made_again.Goals as goal

pub returns : goal.returns
returns c = entries_are_made_again
