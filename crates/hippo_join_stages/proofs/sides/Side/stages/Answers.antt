-- When no stage looks its rows up, all stages are materialised.
use Rattle.std.proofs.Common.{true}
use Rattle.hippo_join_stages.specs.Stages.{AreStages}
use Rattle.hippo_join_stages.specs.Walking.{AreWalkable}
use Rattle.hippo_join_stages.proofs.FindingLemmas.{all-listed}
use Rattle.hippo_join_lookups.proofs.PlaceSteps.{ok-then}
use Rattle.hippo_join_stages.proofs.sides.Side.stages.Goals as goal

pub returns : goal.returns
returns g c =
    let choices = g.C.ChoiceView.choices c.args.self.now.choices.now in
    let query = c.args.self.now.query.now in
    let sets = c.args.self.now.sets.now in
    let order = c.args.order.now in
    ok-then (λ stages. AreWalkable choices query sets true order stages.items) (λ stages. AreStages choices query sets order stages.items) c.stages_in.result c.stages_in.ensures (λ stages are. all-listed choices query sets order stages.items are)
