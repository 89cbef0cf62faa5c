use Rattle.hippo_typing.proofs.CatalogTheorem.{entries_create_anew}
use Rattle.hippo_typing.proofs.laws.entries_create_anew.Goals as goal

pub returns : goal.returns
returns c = entries_create_anew
