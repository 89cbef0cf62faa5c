use Rattle.hippo_stmt_lines.proofs.StatementLemmas.{statements_are_read}
use Rattle.hippo_stmt_lines.proofs.laws.statements_are_read.Goals as goal

pub returns : goal.returns
returns c = statements_are_read
