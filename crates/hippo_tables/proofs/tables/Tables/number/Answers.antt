-- The table is the one that the history gives.
use Rattle.std.proofs.Common.{sym, ◌∙◌}
use Rattle.hippo_tables.proofs.LiveLemmas.{number_live}
use Rattle.hippo_tables.proofs.tables.Tables.number.Goals as goal

pub returns-in-Some : goal.returns-in-Some
returns-in-Some c history stands = c.number.ensures ∙ number_live history c.args.table.now c.args.key.now c.in-Some.kept.now (sym (stands.kept c.args.table.now) ∙ sym c.in-Some.ensures.value)
