-- The new rule is appended to those of the cell.
use Rattle.std.proofs.Common.{◌∙◌, ◌++◌, [], ◌∷◌, nat_eq}
use Rattle.hippo_model.specs.Rules.{Rule}
use Rattle.hippo_policy.specs.declared.ruled_columns.RuledColumns.{RuledColumns}
use Rattle.hippo_policy.specs.Cells.{cell_words, column_words}
use Rattle.hippo_policy.specs.Keys.{same_table}
use Rattle.hippo_policy.specs.Words.{Said, clamped_number}
use Rattle.hippo_policy.proofs.BookLemmas.{on_err}
use Rattle.hippo_policy.proofs.KeyLemmas.{kept-changed, done_if, done_if-same}
use Rattle.hippo_policy.proofs.CellLemmas.{same_table-equivalence, done_both}
use Rattle.hippo_policy.proofs.ruled_tables.RuledTables.push_copy.Goals as goal

pub returns-in_ok-push_copy-in-Some-clause-ok : goal.returns-in_ok-push_copy-in-Some-clause-ok
returns-in_ok-push_copy-in-Some-clause-ok c other =
    let said : Said Rule = record { number = c.args.number; word = c.args.word.now } in
    kept-changed same_table same_table-equivalence c.args.self.now.tables.entries c.args.cell.now.table other.table c.in-Some.columns.now c.push_copy.new.self (λ (columns : RuledColumns). column_words columns other.column) [] (done_if (λ words. words ++ clamped_number words said ∷ []) (nat_eq c.args.cell.now.column other.column))
    (c.get_mut.follows.lender c.push_copy.new.self).entries (c.get_mut.follows.holds c.push_copy.new.self).0 c.in-Some.ensures.value (c.in_ok-push_copy-in-Some.ensures.ok other.column)
    ∙ done_both (λ words. words ++ clamped_number words said ∷ []) (same_table c.args.cell.now.table other.table) (nat_eq c.args.cell.now.column other.column) (cell_words c.args.self.now other)

pub returns-in_err-push_copy-in-Some-clause-err : goal.returns-in_err-push_copy-in-Some-clause-err
returns-in_err-push_copy-in-Some-clause-err c = on_err c.from_residual.result (λ other.
    kept-changed same_table same_table-equivalence c.args.self.now.tables.entries c.args.cell.now.table other.table c.in-Some.columns.now c.push_copy.new.self (λ (columns : RuledColumns). column_words columns other.column) [] (λ words. words)
    (c.get_mut.follows.lender c.push_copy.new.self).entries (c.get_mut.follows.holds c.push_copy.new.self).0 c.in-Some.ensures.value (c.in_err-push_copy-in-Some.ensures.err other.column)
    ∙ done_if-same (same_table c.args.cell.now.table other.table) (cell_words c.args.self.now other))
