use Rattle.hippo_typing_laws.proofs.AskedTheorem as following
use Rattle.hippo_typing_laws.proofs.follow.questions_may_follow.Goals as goal

pub returns : goal.returns
returns c = following.questions_may_follow
