use Rattle.hippo_history_laws.proofs.LinesTheorem.{scripts_are_lines}
use Rattle.hippo_history_laws.proofs.scripts.scripts_are_lines.Goals as goal

pub returns : goal.returns
returns c = scripts_are_lines
