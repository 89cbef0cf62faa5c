use Rattle.hippo_model_laws.proofs.OneStore.{one_history}
use Rattle.hippo_model_laws.proofs.stores.store_tells_history.Goals as goal

pub returns : goal.returns
returns c = one_history
