-- A table without a SUBJECT has no rows about a patient.
use Rattle.hippo_history_uses.proofs.SearchLemmas.{none_without}
use Rattle.hippo_history_uses.proofs.searching.Search.add_table.Goals as goal

pub returns-in_default : goal.returns-in_default
returns-in_default c = none_without c.args.self.now c.args.place c.get-schema.result.now c.args.accesses.now c.get-schema.ensures c.in_default.is
