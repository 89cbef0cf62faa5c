-- The candidates, given the settled rows, are all that can qualify.
use Rattle.hippo_join_stages.specs.Walking.{candidate_places}
use Rattle.hippo_join.proofs.SettlingLemmas.{reaches-settled}
use Rattle.hippo_join.proofs.settling.few_places.Goals as goal

pub returns : goal.returns
returns g c =
    reaches-settled (g.C.ChoiceView.choices c.args.side.now.choices.now) c.args.side.now.query.now c.args.side.now.sets.now c.in_ok-slots.slots.items c.deref.result.now c.args.table
    (candidate_places c.in_ok-following.following) c.in_ok-places.places.items c.in_ok-slots.ensures c.deref.ensures.value c.in_ok-following.ensures c.in_ok-places.ensures
