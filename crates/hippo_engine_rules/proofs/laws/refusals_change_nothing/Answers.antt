use Rattle.hippo_engine_rules.proofs.EffectTheorem.{refusals_change_nothing}
use Rattle.hippo_engine_rules.proofs.laws.refusals_change_nothing.Goals as goal

pub returns : goal.returns
returns c = refusals_change_nothing
