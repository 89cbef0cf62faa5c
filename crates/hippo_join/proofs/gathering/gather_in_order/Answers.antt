-- The walk begins with no row, and visits the combinations of the answer.
use Rattle.std.proofs.Common.{[], List, subst}
use Rattle.hippo_model.specs.Terms.{ShownRow}
use Rattle.hippo_eval.specs.Gathering.{IsGathered}
use Rattle.hippo_eval.proofs.FoundLemmas.{gathered-none}
use Rattle.hippo_join.proofs.GatheringLemmas.{counted-answer}
use Rattle.hippo_join.proofs.gathering.gather_in_order.Goals as goal

pub returns : goal.returns
returns g c =
    let Holds = g.G.Gatherer.Holds c.args.gatherer.now in
    let answer = g.G.Gatherer.answer c.args.gatherer.now in
    let counted = c.in_ok-walk_joined.ensures [] (gathered-none Holds answer c.args.limit c.start-rows.result c.start-rows.ensures) in
    c.answered.ensures _
    (subst (λ (found : List ShownRow). IsGathered Holds answer c.args.limit found c.walk_joined.new.state) (counted-answer (g.C.ChoiceView.choices c.args.choices.now) c.args.query.now c.args.sets.now) counted)
