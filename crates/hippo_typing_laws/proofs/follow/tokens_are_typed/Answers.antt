use Rattle.hippo_typing_laws.proofs.TokenTheorem as following
use Rattle.hippo_typing_laws.proofs.follow.tokens_are_typed.Goals as goal

pub returns : goal.returns
returns c = following.tokens_are_typed
