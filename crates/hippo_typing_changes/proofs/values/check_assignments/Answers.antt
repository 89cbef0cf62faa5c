-- Of three groups, the first one with a refusal gives the result.
use Rattle.std.proofs.Common.{◌++◌}
use Rattle.std.specs.List.{zip}
use Rattle.std.proofs.lemmas.Result.{err_from_is_err_and}
use Rattle.hippo_typing_catalog.specs.ChangesRefused.{assigned_refused, kind_refused, null_refused, text_refused}
use Rattle.hippo_typing_catalog.proofs.Refused.{first_with_more, first_of_three}
use Rattle.hippo_typing_changes.proofs.values.check_assignments.Goals as goal

pub returns-in_err-check_both : goal.returns-in_err-check_both
returns-in_err-check_both c =
    let p = err_from_is_err_and c.from_residual.result c.from_residual.ensures.1 in
    let table = c.args.table.now in
    let all = zip c.args.one.names.now c.args.one.values.now ++ zip c.args.other.names.now c.args.other.values.now in
    rw (p.1, p.2) (first_of_three (assigned_refused kind_refused table all) (assigned_refused null_refused table all) (assigned_refused text_refused table all) c.in_err-check_both.field-0.0 c.in_err-check_both.ensures)

pub returns-in_err-check_both-2 : goal.returns-in_err-check_both-2
returns-in_err-check_both-2 c =
    let p = err_from_is_err_and c.from_residual-in_err-check_both-2.result c.from_residual-in_err-check_both-2.ensures.1 in
    let table = c.args.table.now in
    let all = zip c.args.one.names.now c.args.one.values.now ++ zip c.args.other.names.now c.args.other.values.now in
    rw (p.1, p.2, c.in_ok-check_both.ensures.0) (first_with_more (assigned_refused null_refused table all) (assigned_refused text_refused table all) c.in_err-check_both-2.field-0.0 c.in_err-check_both-2.ensures)

pub returns : goal.returns
returns c = rw (c.in_ok-check_both.ensures.0, c.in_ok-check_both-2.ensures.0) c.check_both-3.ensures
