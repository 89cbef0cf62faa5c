-- Each table's rows are those of the history.
use Rattle.hippo_audit_search.proofs.HistoryLemmas.{tuples-are}
use Rattle.hippo_audit_search.proofs.laws.tuples_are_those_of_history.Goals as goal

pub returns : goal.returns
returns c = tuples-are
