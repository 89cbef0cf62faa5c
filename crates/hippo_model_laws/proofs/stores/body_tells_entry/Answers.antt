use Rattle.hippo_model_laws.proofs.ActCodes.{a_body}
use Rattle.hippo_model_laws.proofs.stores.body_tells_entry.Goals as goal

pub returns : goal.returns
returns c = a_body.once
