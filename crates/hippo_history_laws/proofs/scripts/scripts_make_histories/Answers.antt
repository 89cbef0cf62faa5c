use Rattle.hippo_history_laws.proofs.ScriptTheorem.{scripts_make_histories}
use Rattle.hippo_history_laws.proofs.scripts.scripts_make_histories.Goals as goal

pub returns : goal.returns
returns c = scripts_make_histories
