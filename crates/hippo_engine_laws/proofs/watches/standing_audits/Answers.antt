use Rattle.hippo_engine_laws.proofs.WatchTheorem.{standing_audits}
use Rattle.hippo_engine_laws.proofs.watches.standing_audits.Goals as goal

pub returns : goal.returns
returns c = standing_audits
