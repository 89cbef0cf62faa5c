use Rattle.hippo_stmt_lines.proofs.MomentLemmas.{moments_are_read}
use Rattle.hippo_stmt_lines.proofs.laws.moments_are_read.Goals as goal

pub returns : goal.returns
returns c = moments_are_read
