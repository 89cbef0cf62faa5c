-- There is at most one candidate.
use Rattle.hippo_join_stages.specs.Walking.{candidate_places}
use Rattle.hippo_join.proofs.SettlingLemmas.{only-settles}
use Rattle.hippo_join.proofs.settling.only_place.Goals as goal

pub returns : goal.returns
returns g c =
    only-settles (g.C.ChoiceView.choices c.args.side.now.choices.now) c.args.side.now.query.now c.args.side.now.sets.now c.args.slots.now c.args.table (candidate_places c.in_ok-following.following) c.only_of.result
    c.requires c.in_ok-following.ensures c.only_of.ensures
