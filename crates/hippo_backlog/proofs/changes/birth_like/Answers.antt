-- The row at the place that was found is the row with the key.
use Rattle.hippo_model.specs.Rows.{key_of}
use Rattle.hippo_backlog.proofs.TakingLemmas.{birth_none, birth_some}
use Rattle.hippo_backlog.proofs.changes.birth_like.Goals as goal

pub returns-in-None : goal.returns-in-None
returns-in-None c = birth_none c.args.rows.now (key_of c.args.rows.now.key c.args.row.now) c.in-None.ensures.place

pub returns-in-Some : goal.returns-in-Some
returns-in-Some c = birth_some c.args.rows.now (key_of c.args.rows.now.key c.args.row.now) c.in-Some.place c.born.result c.in-Some.ensures.place c.born.ensures
