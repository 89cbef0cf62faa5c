use Rattle.std.proofs.Common.{◌++◌}
use Rattle.hippo_typing_catalog.specs.Catalogs.{known_at}
use Rattle.hippo_typing.proofs.LastingNames.{extends_later, audit_lasts}
use Rattle.hippo_typing.proofs.laws.audits_last.Goals as goal

pub returns : goal.returns
returns c = λ history later period audit none. audit_lasts (known_at history) (known_at (history ++ later)) (extends_later history later) period audit none
