-- The last entry has the last number.
use Rattle.hippo_backlog.proofs.NumberLemmas.{last_there}
use Rattle.hippo_backlog.proofs.ahead.last_number.Goals as goal

pub returns-in-Some : goal.returns-in-Some
returns-in-Some c = last_there c.args.number c.args.entries.now c.in-Some.entry.now c.in-Some.ensures.value
