-- One part more, up to the last.
use Rattle.std.proofs.Common.{sym, ◌∙◌, arith}
use Rattle.hippo_join_implied.proofs.LoopLemmas.{implied-more, implied-all, none-implied}
use Rattle.hippo_join_implied.proofs.implied.implied_from.Goals as goal

pub returns-then-len-eq0 : goal.returns-then-len-eq0
returns-then-len-eq0 c = c.new-implied.ensures ∙ none-implied c.args.equalities.now c.args.parts.now (sym c.len.ensures ∙ c.if-len-eq0.true)

pub loop-part-preserved : goal.loop-part-preserved
loop-part-preserved c =
    implied-more c.args.equalities.now c.args.parts.now c.loop-part.part-index c.loop-part.implied c.part-item.result c.add_by.new.implied c.loop-part-test.true c.part-item.is c.in_ok-add_by.ensures
    ∙ c.loop-part.invariant

pub returns : goal.returns
returns c = implied-all c.args.equalities.now c.args.parts.now c.loop-part.part-index c.loop-part.implied _ (omega (arith, c.loop-part-test.false)) c.loop-part.invariant
