use Rattle.hippo_stmt_lines.proofs.MomentLemmas.{moment_in-is}
use Rattle.hippo_history_top.proofs.bounds.moment_in.Goals as goal

pub returns : goal.returns
returns c = moment_in-is c.args.word.now c.read_moment.result c.read_moment.ensures.some c.read_moment.ensures.inverse
