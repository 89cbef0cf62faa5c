use Rattle.hippo_backlog.proofs.VersionsTheorem.{versions_fit}
use Rattle.hippo_backlog.proofs.laws.versions_fit.Goals as goal

pub returns : goal.returns
returns c = versions_fit
