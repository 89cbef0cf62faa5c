-- Of three groups, the first one with a refusal gives the result.
use Rattle.std.proofs.Common.{◌++◌, [], map}
use Rattle.std.specs.Prelude.{option_to_list}
use Rattle.std.proofs.lemmas.Result.{err_from_is_err_and}
use Rattle.hippo_model.specs.declared.schema.Column.{Column}
use Rattle.hippo_typing_catalog.specs.Refusals.{repeated_names}
use Rattle.hippo_typing_catalog.specs.ChangesRefused.{keyless_table, unknown_columns}
use Rattle.hippo_typing_catalog.proofs.Refused.{first_of_three}
use Rattle.hippo_typing_changes.proofs.tables.named_places.Goals as goal

pub returns-in_err-check_columns_differ : goal.returns-in_err-check_columns_differ
returns-in_err-check_columns_differ c =
    let p = err_from_is_err_and c.from_residual.result c.from_residual.ensures.1 in
    let columns = c.args.draft.columns.now in
    let key = c.args.draft.key.now in
    rw (p.1, p.2) (first_of_three (repeated_names (map (λ (column : Column). column.name) columns)) (repeated_names key) (unknown_columns (keyless_table [] columns) (key ++ option_to_list c.args.draft.subject.now)) c.in_err-check_columns_differ.field-0.0 (rw (c.as_slice.ensures) at c.in_err-check_columns_differ.ensures))
