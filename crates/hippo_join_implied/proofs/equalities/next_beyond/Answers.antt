-- One more of the equalities, which leads to an expression or does not.
use Rattle.std.proofs.Common.{◌∙◌}
use Rattle.hippo_join_implied.proofs.LoopLemmas.{beyond-here, beyond-later}
use Rattle.hippo_join_implied.proofs.equalities.next_beyond.Goals as goal

pub returns-in-Some : goal.returns-in-Some
returns-in-Some c =
    beyond-here c.args.equalities.now c.args.reached.now c.loop-place.place c.get.result.now c.get.ensures c.in-Some.expr.now c.in-Some.ensures ∙ c.loop-place.invariant

pub loop-place-preserved : goal.loop-place-preserved
loop-place-preserved c =
    beyond-later c.args.equalities.now c.args.reached.now c.loop-place.place c.get.result.now c.get.ensures c.in_default.ensures ∙ c.loop-place.invariant
