-- No table changes.
use Rattle.hippo_tables.proofs.AddLemmas.{added-silent}
use Rattle.hippo_tables.proofs.tables.Tables.pass_over.Goals as goal

pub returns : goal.returns
returns c entry silent = rw c.remember.ensures (added-silent c.args.self.now entry silent)
