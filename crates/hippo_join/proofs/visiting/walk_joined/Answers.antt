-- The side has the parts it was built from.
use Rattle.hippo_join.proofs.visiting.walk_joined.Goals as goal

pub returns : goal.returns
returns g c before kept = rw (c.side_of-side.ensures.query, c.side_of-side.ensures.sets, c.side_of-side.ensures.choices) at (c.visit_all.ensures before kept)
