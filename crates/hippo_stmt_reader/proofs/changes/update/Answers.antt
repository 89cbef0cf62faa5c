-- The parts come one after the other, or the first missing part fails the read.
use Rattle.std.proofs.lemmas.Result.{err_from_is_err_and}
use Rattle.hippo_values.specs.declared.keywords.Keyword.TheVariants.{KAnd, KSet, KWhere}
use Rattle.hippo_lexer.specs.declared.kinds.Symbol.TheVariants.{Comma}
use Rattle.hippo_spj_reader.specs.Front.{kinds, after_keyword, after_symbol}
use Rattle.hippo_stmt_reader.specs.StatementFinder.{leading_assigned, update_of}
use Rattle.hippo_stmt_reader.proofs.AfterLemmas.{fails_first}
use Rattle.hippo_stmt_reader.proofs.changes.update.Goals as goal

pub returns-in_err-set : goal.returns-in_err-set
unfolding update_of
returns-in_err-set c =
    let p = err_from_is_err_and c.from_residual-in_err-set.result c.from_residual-in_err-set.ensures.1 in
    rw (p.1, p.2, c.in_ok-table.ensures.found) (fails_first c.in_err-set.field-0.0 (leading_assigned KSet (after_symbol Comma) (kinds c.in_ok-table.rest.now)) _ c.in_err-set.ensures.found)

pub returns-in_err-key : goal.returns-in_err-key
unfolding update_of
returns-in_err-key c =
    let p = err_from_is_err_and c.from_residual-in_err-key.result c.from_residual-in_err-key.ensures.1 in
    rw (p.1, p.2, c.in_ok-table.ensures.found, c.in_ok-set.ensures.found) (fails_first c.in_err-key.field-0.0 (leading_assigned KWhere (after_keyword KAnd) (kinds c.in_ok-set.rest.now)) _ c.in_err-key.ensures.found)

pub returns : goal.returns
unfolding update_of
returns c =
    rw (c.in_ok-table.ensures.found, c.in_ok-set.ensures.found, c.in_ok-key.ensures.found) c.with_end.ensures
