-- What one part requires, all parts require.
use Rattle.hippo_join_stages.proofs.KeyLemmas.{of-all-parts}
use Rattle.hippo_join_stages.proofs.sides.Side.told_value.Goals as goal

pub returns-in-Some : goal.returns-in-Some
returns-in-Some g c =
    of-all-parts (g.C.ChoiceView.choices c.args.self.now.choices.now) c.args.self.now.sets.now c.args.slots.now _ c.outer_parts-part-items.result.now c.loop-part.part-index c.part-item.result _ c.outer_parts-part-items.ensures c.loop-part-test.true c.part-item.is c.in-Some.ensures
