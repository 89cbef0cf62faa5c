-- Of four groups, the first one with a refusal gives the result.
use Rattle.std.proofs.lemmas.Result.{err_from_is_err_and}
use Rattle.hippo_typing_catalog.specs.ChangesRefused.{count_refused, row_refused, kind_refused, null_refused, text_refused}
use Rattle.hippo_typing_catalog.proofs.Refused.{first_with_more, first_of_three, first_of_four}
use Rattle.hippo_typing_changes.proofs.values.check_new_row.Goals as goal

pub returns-in_err-check_count : goal.returns-in_err-check_count
returns-in_err-check_count c =
    let p = err_from_is_err_and c.from_residual.result c.from_residual.ensures.1 in
    let columns = c.args.schema.now.columns in
    let values = c.args.values.now in
    rw (p.1, p.2) (first_of_four (count_refused c.args.schema.now values) (row_refused kind_refused columns values) (row_refused null_refused columns values) (row_refused text_refused columns values) c.in_err-check_count.field-0.0 c.in_err-check_count.ensures)

pub returns-in_err-check_row : goal.returns-in_err-check_row
returns-in_err-check_row c =
    let p = err_from_is_err_and c.from_residual-in_err-check_row.result c.from_residual-in_err-check_row.ensures.1 in
    let columns = c.args.schema.now.columns in
    let values = c.args.values.now in
    rw (p.1, p.2, c.in_ok-check_count.ensures.0) (first_of_three (row_refused kind_refused columns values) (row_refused null_refused columns values) (row_refused text_refused columns values) c.in_err-check_row.field-0.0 (rw (c.as_slice-columns.ensures) at c.in_err-check_row.ensures))

pub returns-in_err-check_row-2 : goal.returns-in_err-check_row-2
returns-in_err-check_row-2 c =
    let p = err_from_is_err_and c.from_residual-in_err-check_row-2.result c.from_residual-in_err-check_row-2.ensures.1 in
    let columns = c.args.schema.now.columns in
    let values = c.args.values.now in
    let kinds = rw (c.as_slice-columns.ensures) at c.in_ok-check_row.ensures.0 in
    rw (p.1, p.2, c.in_ok-check_count.ensures.0, kinds) (first_with_more (row_refused null_refused columns values) (row_refused text_refused columns values) c.in_err-check_row-2.field-0.0 (rw (c.as_slice-columns.ensures) at c.in_err-check_row-2.ensures))

pub returns : goal.returns
returns c =
    let kinds = rw (c.as_slice-columns.ensures) at c.in_ok-check_row.ensures.0 in
    let nulls = rw (c.as_slice-columns.ensures) at c.in_ok-check_row-2.ensures.0 in
    rw (c.in_ok-check_count.ensures.0, kinds, nulls) (rw (c.as_slice-columns.ensures) at c.check_row-3.ensures)
