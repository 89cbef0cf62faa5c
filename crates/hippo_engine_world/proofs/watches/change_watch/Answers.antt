-- A watch is changed back only when `Back` asks for it.
use Rattle.hippo_engine_world.proofs.watches.change_watch.Goals as goal

pub returns-in-Back-clause-changes : goal.returns-in-Back-clause-changes
returns-in-Back-clause-changes c = rw c.in-Back.is c.take_back.ensures.goes_back
