-- The table is the one that the history gives.
use Rattle.std.proofs.Common.{sym, ◌∙◌}
use Rattle.hippo_tables.proofs.LiveLemmas.{row_live}
use Rattle.hippo_tables.proofs.tables.Tables.row.Goals as goal

pub returns-in-Some : goal.returns-in-Some
returns-in-Some c history stands = c.row.ensures ∙ row_live history c.args.table.now c.args.key.now c.in-Some.kept.now (sym (stands.kept c.args.table.now) ∙ sym c.in-Some.ensures.value)
