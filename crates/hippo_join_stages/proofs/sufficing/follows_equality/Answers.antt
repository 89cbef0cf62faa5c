-- Both columns are shown for every row, and are those of the tie.
use Rattle.hippo_join_stages.proofs.SufficeLemmas.{equality_holds}
use Rattle.hippo_join_stages.proofs.sufficing.follows_equality.Goals as goal

pub returns : goal.returns
returns c = λ yes choices rows tied.
    equality_holds choices rows c.args.left.now c.args.right.now c.in-Some-Some.left c.in-Some-Some.right c.in-Some-Some.ensures c.in-Some-Some.ensures' (c.are_tied.ensures yes rows tied)
