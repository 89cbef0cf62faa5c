-- A lookup stage has no tie that its candidates would have to meet.
use Rattle.std.proofs.Common.{◌≡◌, true, Some}
use Rattle.std.specs.Prelude.{slice_set}
use Rattle.hippo_join_lookups.specs.Known.{is_open}
use Rattle.hippo_join_lookups.specs.Places.{rows_at}
use Rattle.hippo_join_lookups.proofs.PlaceSteps.{ok-then}
use Rattle.hippo_join_stages.specs.Stages.{AllQualify, ReachesFrom, suffices}
use Rattle.hippo_join_stages.specs.Walking.{candidate_places}
use Rattle.hippo_join_stages.proofs.SufficeLemmas.{enough-of, searched-tied}
use Rattle.hippo_join_stages.proofs.sides.Side.following.Goals as goal

pub returns-after-len-eq1-clause-count : goal.returns-after-len-eq1-clause-count
returns-after-len-eq1-clause-count g c =
    let choices = g.C.ChoiceView.choices c.args.self.now.choices.now in
    let query = c.args.self.now.query.now in
    let sets = c.args.self.now.sets.now in
    let slots = c.args.slots.now in
    let stage = c.args.stage.now in
    ok-then (λ following. ReachesFrom choices query sets slots stage.table (candidate_places following))
    (λ following. is_open slots stage.table ≡ true → suffices stage slots ≡ true → AllQualify choices query sets slots stage.table (candidate_places following))
    c.candidates.result c.candidates.ensures
    (λ following reaches still yes place has set at within.
    let rows = rows_at sets (slice_set slots stage.table (Some place)) in
    c.requires.stage.enough (enough-of stage slots yes) rows (searched-tied stage slots yes rows c.if-stage.true))
