-- One more of the expressions, which shows the column or does not.
use Rattle.std.proofs.Common.{sym, ◌∙◌}
use Rattle.hippo_join_implied.proofs.LoopLemmas.{reached-here, reached-later}
use Rattle.hippo_join_implied.proofs.equalities.shows_reached.Goals as goal

pub returns-then-show_same : goal.returns-then-show_same
returns-then-show_same c =
    sym (reached-here c.args.reached.now c.loop-place.place c.get.result.now c.args.expr.now c.get.ensures (sym c.show_same.ensures ∙ c.if-show_same.true)) ∙ c.loop-place.invariant

pub loop-place-preserved : goal.loop-place-preserved
loop-place-preserved c =
    sym (reached-later c.args.reached.now c.loop-place.place c.get.result.now c.args.expr.now c.get.ensures (sym c.show_same.ensures ∙ c.if-show_same.false)) ∙ c.loop-place.invariant
