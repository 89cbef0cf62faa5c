use Rattle.std.proofs.Common.{[]}
use Rattle.std.proofs.lemmas.Result.{err_from_is_err_and}
use Rattle.std.specs.Prelude.{is_none, option_to_list}
use Rattle.hippo_model.specs.declared.name_fault.NameFault.TheVariants.{UnknownColumn}
use Rattle.hippo_model.specs.declared.schema.Schema.{Schema}
use Rattle.hippo_typing_catalog.specs.Refusals.{fault_if}
use Rattle.hippo_typing_catalog.specs.WrittenColumns.{place_of}
use Rattle.hippo_typing_catalog.specs.ChangesRefused.{keyless_table}
use Rattle.hippo_typing_changes.proofs.ChangesLemmas.{first_of_front}
use Rattle.hippo_typing_changes.proofs.tables.key_places.Goals as goal

pub returns-in_err-key : goal.returns-in_err-key
returns-in_err-key c =
    let table : Schema = keyless_table [] c.args.columns.now in
    let key = c.args.key.now in
    let subject = option_to_list c.args.subject.now in
    let p = err_from_is_err_and c.from_residual.result c.from_residual.ensures.1 in
    rw (p.1, p.2) (first_of_front (λ name. fault_if (is_none (place_of table name)) (UnknownColumn name)) key subject c.in_err-key.field-0.0 (rw c.as_slice.ensures at c.in_err-key.ensures))
