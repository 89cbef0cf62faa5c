use Rattle.hippo_history_laws.proofs.CutTheorem.{scripts_run_again}
use Rattle.hippo_history_laws.proofs.scripts.scripts_run_again.Goals as goal

pub returns : goal.returns
returns c = scripts_run_again
