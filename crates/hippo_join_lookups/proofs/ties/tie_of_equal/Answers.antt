-- If the equality holds, its columns are equal.
use Rattle.std.proofs.Common.{sym}
use Rattle.std.proofs.lemmas.Option.{IfSome_then}
use Rattle.hippo_join_lookups.proofs.PartLemmas.{tie-left}
use Rattle.hippo_join_lookups.proofs.ties.tie_of_equal.Goals as goal

pub returns : goal.returns
returns c =
    IfSome_then c.tie_to_chosen.result c.tie_to_chosen.ensures (λ tie said choices rows all. said rows (tie-left c.args.left.now c.args.right.now c.in-Some-Some.left c.in-Some-Some.right (sym c.in-Some-Some.ensures) (sym c.in-Some-Some.ensures') choices rows all))
