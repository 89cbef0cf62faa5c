use Rattle.hippo_engine_laws.proofs.WatchTheorem.{alarms_are_flags}
use Rattle.hippo_engine_laws.proofs.watches.alarms_are_flags.Goals as goal

pub returns : goal.returns
returns c = alarms_are_flags
