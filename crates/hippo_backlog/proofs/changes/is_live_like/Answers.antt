-- A place is found exactly when there is a row.
use Rattle.std.proofs.Common.{◌∙◌}
use Rattle.hippo_model.specs.Rows.{key_of}
use Rattle.hippo_backlog.proofs.TakingLemmas.{found_live}
use Rattle.hippo_backlog.proofs.changes.is_live_like.Goals as goal

pub returns : goal.returns
returns c = c.is_some.ensures ∙ found_live c.args.rows.now (key_of c.args.rows.now.key c.args.row.now) c.find_like.result c.find_like.ensures.place
