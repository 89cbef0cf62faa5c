-- The entry that is found may follow the history.
use Rattle.hippo_engine_checks.proofs.FollowingLemmas.{change_follows}
use Rattle.hippo_engine_checks.proofs.changes.entry_of_change.Goals as goal

pub returns-clause-follows : goal.returns-clause-follows
returns-clause-follows g c =
    change_follows c.args.state.now (g.W.WorldView.seen c.args.world.now) c.args.statement.now c.entry_for.result c.requires.timely c.requires.written
    c.entry_for.ensures.found c.entry_for.ensures.number c.entry_for.ensures.moment
