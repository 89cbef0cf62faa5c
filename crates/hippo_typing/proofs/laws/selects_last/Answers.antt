use Rattle.std.proofs.Common.{◌++◌}
use Rattle.hippo_typing_catalog.specs.Catalogs.{known_at}
use Rattle.hippo_typing.proofs.LastingNames.{extends_later, select_lasts}
use Rattle.hippo_typing.proofs.laws.selects_last.Goals as goal

pub returns : goal.returns
returns c = λ history later select none. select_lasts (known_at history) (known_at (history ++ later)) (extends_later history later) select none
