-- If there is nothing to test, all candidates are taken.
use Rattle.std.proofs.Common.{◌≡◌, List, sym, subst}
use Rattle.hippo_model.specs.Terms.{Place}
use Rattle.hippo_join_stages.specs.Stages.{Reaches}
use Rattle.hippo_join_stages.specs.Walking.{candidate_places}
use Rattle.hippo_join_lookups.proofs.PlaceSteps.{ok-then}
use Rattle.hippo_join_stages.proofs.sides.Side.reached_places.Goals as goal

pub returns : goal.returns
returns g c =
    let Reached : List Place → Type 0 = Reaches (g.C.ChoiceView.choices c.args.self.now.choices.now) c.args.self.now.query.now c.args.self.now.sets.now c.args.table in
    ok-then (λ places. places.items ≡ candidate_places c.in_ok-candidates.candidates) (λ places. Reached places.items) c.listed.result c.listed.ensures
    (λ places are. subst Reached (sym are) c.in_ok-candidates.ensures)
