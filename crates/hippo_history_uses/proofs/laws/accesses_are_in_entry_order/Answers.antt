use Rattle.hippo_history_uses.proofs.OrderLemmas.{in_entry_order}
use Rattle.hippo_history_uses.proofs.laws.accesses_are_in_entry_order.Goals as goal

pub returns : goal.returns
returns c = in_entry_order
