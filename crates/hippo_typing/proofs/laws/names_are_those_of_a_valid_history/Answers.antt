use Rattle.hippo_typing.proofs.CatalogTheorem.{valid_names}
use Rattle.hippo_typing.proofs.laws.names_are_those_of_a_valid_history.Goals as goal

pub returns : goal.returns
returns c = valid_names
