use Rattle.hippo_typing_laws.proofs.FollowingTheorem as following
use Rattle.hippo_typing_laws.proofs.follow.changes_may_follow.Goals as goal

pub returns : goal.returns
returns c = following.changes_may_follow
