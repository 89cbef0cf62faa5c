use Rattle.hippo_engine_rules.proofs.EffectTheorem.{lines_add_the_next_entry}
use Rattle.hippo_engine_rules.proofs.laws.lines_add_the_next_entry.Goals as goal

pub returns : goal.returns
returns c = lines_add_the_next_entry
