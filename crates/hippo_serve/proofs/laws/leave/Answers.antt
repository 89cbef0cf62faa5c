-- The store that is given back holds what survives.
use Rattle.hippo_serve.proofs.NextRunLemmas.{holds_history, holds_either, holds_some}
use Rattle.hippo_serve.proofs.laws.leave.Goals as goal

pub returns-clause-goes_on : goal.returns-clause-goes_on
returns-clause-goes_on g c = holds_history _ c.into_store.result c.into_store.ensures

pub returns-clause-either : goal.returns-clause-either
returns-clause-either g c = holds_either _ c.into_store.result c.into_store.ensures

pub returns-clause-some : goal.returns-clause-some
returns-clause-some g c = holds_some _ c.into_store.result c.into_store.ensures
