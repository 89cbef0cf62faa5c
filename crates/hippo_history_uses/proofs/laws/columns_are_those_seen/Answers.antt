use Rattle.hippo_history_uses.proofs.ColumnLemmas.{columns_are}
use Rattle.hippo_history_uses.proofs.laws.columns_are_those_seen.Goals as goal

pub returns : goal.returns
returns c = columns_are
