-- The parts come one after the other, or the first missing part fails the read.
use Rattle.std.proofs.lemmas.Result.{err_from_is_err_and}
use Rattle.hippo_values.specs.declared.keywords.Keyword.TheVariants.{KAnd, KFrom, KWhere}
use Rattle.hippo_spj_reader.specs.Front.{kinds, after_keyword}
use Rattle.hippo_stmt_reader.specs.StatementFinder.{leading_name_after, leading_assigned, delete_of}
use Rattle.hippo_stmt_reader.proofs.AfterLemmas.{fails_first}
use Rattle.hippo_stmt_reader.proofs.changes.delete.Goals as goal

pub returns-in_err-table : goal.returns-in_err-table
unfolding delete_of
returns-in_err-table c =
    let p = err_from_is_err_and c.from_residual.result c.from_residual.ensures.1 in
    rw (p.1, p.2) (fails_first c.in_err-table.field-0.0 (leading_name_after KFrom (kinds c.args.tokens.now)) _ c.in_err-table.ensures.found)

pub returns-in_err-key : goal.returns-in_err-key
unfolding delete_of
returns-in_err-key c =
    let p = err_from_is_err_and c.from_residual-in_err-key.result c.from_residual-in_err-key.ensures.1 in
    rw (p.1, p.2, c.in_ok-table.ensures.found) (fails_first c.in_err-key.field-0.0 (leading_assigned KWhere (after_keyword KAnd) (kinds c.in_ok-table.rest.now)) _ c.in_err-key.ensures.found)

pub returns : goal.returns
unfolding delete_of
returns c =
    rw (c.in_ok-table.ensures.found, c.in_ok-key.ensures.found) c.with_end.ensures
