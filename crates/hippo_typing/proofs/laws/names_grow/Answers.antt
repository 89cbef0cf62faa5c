use Rattle.hippo_typing.proofs.CatalogTheorem.{names_grow}
use Rattle.hippo_typing.proofs.laws.names_grow.Goals as goal

pub returns : goal.returns
returns c = names_grow
