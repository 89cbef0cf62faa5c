use Rattle.hippo_model_laws.proofs.ActCodes.{stored_again}
use Rattle.hippo_model_laws.proofs.stores.stored_form_tells_entry.Goals as goal

pub returns : goal.returns
returns c = stored_again
