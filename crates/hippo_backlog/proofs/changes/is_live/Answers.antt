-- A place is found exactly when there is a row.
use Rattle.std.proofs.Common.{◌∙◌}
use Rattle.hippo_backlog.proofs.TakingLemmas.{found_live}
use Rattle.hippo_backlog.proofs.changes.is_live.Goals as goal

pub returns : goal.returns
returns c = c.is_some.ensures ∙ found_live c.args.rows.now c.args.key.now c.find.result c.find.ensures.place
