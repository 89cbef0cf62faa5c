-- If a condition is a list of parts, it is known when each part is.
use Rattle.hippo_join_lookups.proofs.KnownLemmas.{knows-All, knows-Any}
use Rattle.hippo_join_lookups.proofs.known.+knows.Goals as goal

pub knows-returns-in-All : goal.knows-returns-in-All
knows-returns-in-All t c = rw (c.in-All.is, knows-All c.args.slots.now c.in-All.parts) cc

pub knows-returns-in-Any : goal.knows-returns-in-Any
knows-returns-in-Any t c = rw (c.in-Any.is, knows-Any c.args.slots.now c.in-Any.parts) cc
