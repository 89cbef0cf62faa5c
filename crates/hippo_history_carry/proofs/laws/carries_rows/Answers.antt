use Rattle.hippo_history_carry.proofs.RowLemmas.{carries_rows}
use Rattle.hippo_history_carry.proofs.laws.carries_rows.Goals as goal

pub returns : goal.returns
returns c = carries_rows
