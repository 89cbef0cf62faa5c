use Rattle.hippo_typing_laws.proofs.CommandTheorem as following
use Rattle.hippo_typing_laws.proofs.follow.commands_are_written.Goals as goal

pub returns : goal.returns
returns c = following.commands_are_written
