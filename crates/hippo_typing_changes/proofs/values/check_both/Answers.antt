use Rattle.std.specs.List.{zip}
use Rattle.std.proofs.lemmas.Result.{err_from_is_err_and}
use Rattle.hippo_typing_catalog.specs.ChangesRefused.{in_column}
use Rattle.hippo_typing_changes.proofs.ChangesLemmas.{first_of_front}
use Rattle.hippo_typing_changes.proofs.values.check_both.Goals as goal

pub returns-in_err-check_assigned : goal.returns-in_err-check_assigned
returns-in_err-check_assigned g c =
    let refusals = g.C.ValueCheck.refusals in
    let table = c.args.table.now in
    let one = zip c.args.one.names.now c.args.one.values.now in
    let other = zip c.args.other.names.now c.args.other.values.now in
    let p = err_from_is_err_and c.from_residual.result c.from_residual.ensures.1 in
    rw (p.1, p.2) (first_of_front (λ (name, value). in_column table name (λ column. refusals column value)) one other c.in_err-check_assigned.field-0.0 c.in_err-check_assigned.ensures)
