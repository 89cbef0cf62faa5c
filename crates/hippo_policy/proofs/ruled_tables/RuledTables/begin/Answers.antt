-- The new rule is the only one of the table.
use Rattle.std.proofs.Common.{[], nat_eq}
use Rattle.std.specs.HashMap.{get}
use Rattle.hippo_model.specs.Rules.{Rule}
use Rattle.hippo_policy.specs.declared.ruled_columns.RuledColumns.{RuledColumns}
use Rattle.hippo_policy.specs.Cells.{column_words}
use Rattle.hippo_policy.specs.Keys.{same_table}
use Rattle.hippo_policy.specs.Words.{Said, with_word}
use Rattle.hippo_policy.proofs.KeyLemmas.{kept-begun}
use Rattle.hippo_policy.proofs.ruled_tables.RuledTables.begin.Goals as goal

pub returns-clause-ok : goal.returns-clause-ok
returns-clause-ok c other =
    let said : Said Rule = record { number = c.args.number; word = c.args.word.now } in
    kept-begun (λ (columns : RuledColumns). column_words columns other.column) [] (same_table c.args.cell.now.table other.table) c.push_copy.new.self (get same_table c.args.self.now.tables other.table) (get same_table c.insert.new.self other.table) (with_word (nat_eq c.args.cell.now.column other.column) said [])
    (rw c.in_ok-table.ensures at (c.in_ok-insert.ensures.updates.0 other.table)) (rw (c.new-columns.ensures other.column) at (c.in_ok-push_copy.ensures.ok other.column))
