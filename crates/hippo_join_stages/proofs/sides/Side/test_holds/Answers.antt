-- A known part holds in each qualifying combination.
use Rattle.std.proofs.Common.{ap, ◌∙◌, not, ◌||◌}
use Rattle.hippo_model.specs.Conditions.{outer_parts}
use Rattle.hippo_model.specs.Terms.{Combination}
use Rattle.hippo_join_lookups.specs.Known.{knows}
use Rattle.hippo_join_lookups.specs.Ties.{holds}
use Rattle.hippo_join_lookups.proofs.PruneLemmas.{part-holds, get-at}
use Rattle.hippo_join_stages.proofs.sides.Side.test_holds.Goals as goal

pub returns-in-Some : goal.returns-in-Some
returns-in-Some g c = λ places fits counts.
    let choices = g.C.ChoiceView.choices c.args.self.now.choices.now in
    let query = c.args.self.now.query.now in
    let slots = c.args.slots.now in
    let part = c.in-Some.part.now in
    c.part_holds.ensures ∙ ap (λ (rows : Combination). not (knows slots part) || holds choices rows part) c.requires
    ∙ part-holds choices query c.args.self.now.sets.now slots places fits counts c.args.test part
    (get-at c.outer_parts.result.now (outer_parts query.cond) c.args.test part c.outer_parts.ensures c.in-Some.ensures.lookup.0 c.in-Some.ensures.lookup.1)
