use Rattle.std.specs.Prelude.{is_none}
use Rattle.std.proofs.lemmas.Result.{err_from_is_err_and}
use Rattle.hippo_model.specs.declared.name_fault.NameFault.TheVariants.{UnknownColumn}
use Rattle.hippo_typing_catalog.specs.Refusals.{fault_if}
use Rattle.hippo_typing_catalog.specs.WrittenColumns.{place_of}
use Rattle.hippo_typing_changes.proofs.ChangesLemmas.{first_of_front}
use Rattle.hippo_typing_changes.proofs.keys.both_places.Goals as goal

pub returns-in_err-set : goal.returns-in_err-set
returns-in_err-set c =
    let p = err_from_is_err_and c.from_residual.result c.from_residual.ensures.1 in
    rw (p.1, p.2) (first_of_front (λ name. fault_if (is_none (place_of c.args.table.now name)) (UnknownColumn name)) c.args.set.now c.args.key.now c.in_err-set.field-0.0 c.in_err-set.ensures)
