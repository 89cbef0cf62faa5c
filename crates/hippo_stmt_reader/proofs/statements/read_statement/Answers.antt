-- What is found is the grammar's statement, and each statement of the grammar is found.
use Rattle.std.proofs.Common.{sym}
use Rattle.std.proofs.lemmas.Result.{err_from_is_err_and}
use Rattle.hippo_stmt_reader.proofs.StatementTheorem.{words_refused, read_found, read_only, read_errors}
use Rattle.hippo_stmt_reader.proofs.statements.read_statement.Goals as goal

pub returns-in_err-check_words-clause-errors : goal.returns-in_err-check_words-clause-errors
returns-in_err-check_words-clause-errors c =
    let p = err_from_is_err_and c.from_residual.result c.from_residual.ensures.1 in
    rw (p.1, p.2) (words_refused c.args.t.now c.in_err-check_words.field-0.0 (sym c.in_err-check_words.ensures))

pub returns-clause-found : goal.returns-clause-found
returns-clause-found c = read_found c.args.t.now (sym c.in_ok-check_words.ensures) c.statement.result (rw c.as_slice.ensures at c.statement.ensures)

pub returns-clause-only : goal.returns-clause-only
returns-clause-only c = read_only c.args.t.now (sym c.in_ok-check_words.ensures) c.statement.result (rw c.as_slice.ensures at c.statement.ensures)

pub returns-clause-errors : goal.returns-clause-errors
returns-clause-errors c = read_errors c.args.t.now (sym c.in_ok-check_words.ensures) c.statement.result (rw c.as_slice.ensures at c.statement.ensures)
