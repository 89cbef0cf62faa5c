-- The sizes are checked after groups without refusals, and before the table's name.
use Rattle.std.proofs.Common.{◌++◌}
use Rattle.std.specs.Prelude.{is_some}
use Rattle.std.proofs.lemmas.Result.{err_from_is_err_and}
use Rattle.hippo_typing_catalog.specs.Catalogs.{table_of}
use Rattle.hippo_typing_catalog.specs.ChangesRefused.{keyless_table, subject_refused, sizes_refused, known_name_refused}
use Rattle.hippo_typing_changes.specs.Checking.{draft_refused}
use Rattle.hippo_typing_catalog.proofs.Refused.{first_of_three, second_of_three}
use Rattle.hippo_typing_changes.proofs.tables.check_table.Goals as goal

pub returns-in_err-places : goal.returns-in_err-places
returns-in_err-places c =
    let p = err_from_is_err_and c.from_residual.result c.from_residual.ensures.1 in
    let known = c.args.catalog.now.names in
    let table = c.args.table.now in
    let columns = c.args.draft.columns.now in
    let key = c.args.draft.key.now in
    let subject = c.args.draft.subject.now in
    rw (p.1, p.2) (first_of_three (draft_refused columns key subject ++ subject_refused (keyless_table table columns) subject) (sizes_refused known columns) (known_name_refused (is_some (table_of known table)) table) c.in_err-places.field-0.0 c.in_err-places.ensures)

pub returns-in_err-check_sizes : goal.returns-in_err-check_sizes
returns-in_err-check_sizes c =
    let p = err_from_is_err_and c.from_residual-in_err-check_sizes.result c.from_residual-in_err-check_sizes.ensures.1 in
    let known = c.args.catalog.now.names in
    let table = c.args.table.now in
    let columns = c.args.draft.columns.now in
    let key = c.args.draft.key.now in
    let subject = c.args.draft.subject.now in
    rw (p.1, p.2) (second_of_three (draft_refused columns key subject ++ subject_refused (keyless_table table columns) subject) (sizes_refused known columns) (known_name_refused (is_some (table_of known table)) table) c.in_err-check_sizes.field-0.0 c.in_ok-places.ensures.0 c.in_err-check_sizes.ensures)
