-- No row is chosen before.
use Rattle.std.proofs.Common.{None, replicate, ap, ◌∙◌}
use Rattle.hippo_join_stages.specs.Stages.{Reaches, ReachesFrom}
use Rattle.hippo_join_stages.specs.Walking.{candidate_places}
use Rattle.hippo_join_lookups.proofs.PlaceSteps.{ok-then}
use Rattle.hippo_join_stages.proofs.SeekingLemmas.{reaches-open}
use Rattle.hippo_join_stages.proofs.sides.Side.open_candidates.Goals as goal

pub returns : goal.returns
returns g c =
    let choices = g.C.ChoiceView.choices c.args.self.now.choices.now in
    let query = c.args.self.now.query.now in
    let sets = c.args.self.now.sets.now in
    ok-then (λ following. ReachesFrom choices query sets c.deref.result.now c.args.table (candidate_places following)) (λ following. Reaches choices query sets c.args.table (candidate_places following)) c.candidates.result c.candidates.ensures
    (λ following. reaches-open choices query sets c.deref.result.now c.args.table (candidate_places following) (c.deref.ensures.value ∙ c.in_ok-slots.ensures ∙ ap (λ n. replicate n None) c.len.ensures))
