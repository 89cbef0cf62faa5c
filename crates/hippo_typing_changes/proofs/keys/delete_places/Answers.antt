-- The assigned values are refused after groups without refusals.
use Rattle.std.proofs.Common.{◌++◌}
use Rattle.std.specs.List.{zip}
use Rattle.std.proofs.lemmas.Result.{err_from_is_err_and}
use Rattle.hippo_typing_catalog.specs.ChangesRefused.{rule_refused, key_refused, assignments_refused}
use Rattle.hippo_typing_catalog.proofs.Refused.{first_with_more}
use Rattle.hippo_typing_changes.proofs.keys.delete_places.Goals as goal

pub returns-in_err-places : goal.returns-in_err-places
returns-in_err-places c =
    let p = err_from_is_err_and c.from_residual.result c.from_residual.ensures.1 in
    let table = c.args.table.now in
    let keys = c.args.key.names.now in
    rw (p.1, p.2) (first_with_more (rule_refused keys table ++ key_refused table keys) (assignments_refused table (zip keys c.args.key.values.now)) c.in_err-places.field-0.0 c.in_err-places.ensures)

pub returns-in_err-check_assignments : goal.returns-in_err-check_assignments
returns-in_err-check_assignments c =
    let p = err_from_is_err_and c.from_residual-in_err-check_assignments.result c.from_residual-in_err-check_assignments.ensures.1 in
    rw (p.1, p.2, c.in_ok-places.ensures.0) c.in_err-check_assignments.ensures
