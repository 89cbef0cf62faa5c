use Rattle.hippo_typing_laws.proofs.WrittenTheorem as following
use Rattle.hippo_typing_laws.proofs.follow.statements_are_written.Goals as goal

pub returns : goal.returns
returns c = following.statements_are_written
