-- The counts follow the act.
use Rattle.hippo_watch.proofs.WatchLemmas.{follows_so}
use Rattle.hippo_watch.proofs.watches.take_in.Goals as goal

pub returns-clause-follows : goal.returns-clause-follows
returns-clause-follows c = follows_so c.args.tables.now c.args.act.now c.args.held.now c.take_in.new.self c.take_in.ensures.hits
