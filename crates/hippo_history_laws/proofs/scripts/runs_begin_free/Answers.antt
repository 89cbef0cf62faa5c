use Rattle.hippo_history_laws.proofs.ScriptTheorem.{runs_begin_free}
use Rattle.hippo_history_laws.proofs.scripts.runs_begin_free.Goals as goal

pub returns : goal.returns
returns c = runs_begin_free
