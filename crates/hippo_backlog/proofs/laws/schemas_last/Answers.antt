use Rattle.hippo_backlog.proofs.VersionsTheorem.{schemas_last}
use Rattle.hippo_backlog.proofs.laws.schemas_last.Goals as goal

pub returns : goal.returns
returns c = schemas_last
