use Rattle.hippo_model_laws.proofs.OneStore as stores
use Rattle.hippo_model_laws.proofs.stores.damage_tells_place.Goals as goal

pub returns : goal.returns
returns c = record { of_none = stores.of_none; one_place = stores.one_place }
