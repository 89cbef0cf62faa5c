use Rattle.hippo_backlog.proofs.VersionsTheorem.{kept_at-versions}
use Rattle.hippo_backlog.proofs.laws.rows_are_those_of_versions.Goals as goal

pub returns : goal.returns
returns c = kept_at-versions
