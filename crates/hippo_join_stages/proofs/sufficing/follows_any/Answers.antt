-- There is a tie.
use Rattle.std.proofs.Common.{Option, subst}
use Rattle.hippo_join_lookups.specs.declared.ties.Tie.{Tie}
use Rattle.hippo_join_stages.specs.Stages.{AreTied}
use Rattle.hippo_join_stages.proofs.sufficing.follows_any.Goals as goal

pub returns-in-Some : goal.returns-in-Some
returns-in-Some c = λ yes choices rows tied.
    c.follows.ensures yes choices rows (subst (λ (t : Option Tie). AreTied c.args.table t rows) c.in-Some.is tied)
