-- The counts are reverted.
use Rattle.hippo_watch.proofs.WatchLemmas.{goes_back_so}
use Rattle.hippo_watch.proofs.watches.take_back.Goals as goal

pub returns-clause-goes_back : goal.returns-clause-goes_back
returns-clause-goes_back c = goes_back_so c.args.tables.now c.args.act.now c.args.held.now c.take_back.new.self c.take_back.ensures.hits
