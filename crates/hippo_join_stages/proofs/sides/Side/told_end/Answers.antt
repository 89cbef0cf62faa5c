-- An equality bounds its column from both sides.
use Rattle.hippo_model.specs.Conditions.{outer_parts}
use Rattle.hippo_join_stages.proofs.RangeLemmas.{told-bounds}
use Rattle.hippo_join_stages.proofs.sides.Side.told_end.Goals as goal

pub returns-in-Some : goal.returns-in-Some
returns-in-Some g c =
    told-bounds (g.C.ChoiceView.choices c.args.self.now.choices.now) c.args.self.now.sets.now c.args.slots.now (outer_parts c.args.self.now.query.now.cond) c.args.column c.in-Some.value.now c.args.above c.in-Some.ensures
