-- Of three groups, the first one with a refusal gives the result.
use Rattle.std.proofs.Common.{◌++◌}
use Rattle.std.proofs.lemmas.Result.{err_from_is_err_and}
use Rattle.hippo_typing_catalog.specs.Refusals.{repeated_names}
use Rattle.hippo_typing_catalog.specs.ChangesRefused.{unknown_columns}
use Rattle.hippo_typing_catalog.proofs.Refused.{first_with_more, first_of_three}
use Rattle.hippo_typing_changes.proofs.keys.named_places.Goals as goal

pub returns-in_err-check_repeats : goal.returns-in_err-check_repeats
returns-in_err-check_repeats c =
    let p = err_from_is_err_and c.from_residual.result c.from_residual.ensures.1 in
    let set = c.args.set.now in
    let key = c.args.key.now in
    rw (p.1, p.2) (first_of_three (repeated_names set) (repeated_names key) (unknown_columns c.args.table.now (set ++ key)) c.in_err-check_repeats.field-0.0 c.in_err-check_repeats.ensures)

pub returns-in_err-check_repeats-2 : goal.returns-in_err-check_repeats-2
returns-in_err-check_repeats-2 c =
    let p = err_from_is_err_and c.from_residual-in_err-check_repeats-2.result c.from_residual-in_err-check_repeats-2.ensures.1 in
    let set = c.args.set.now in
    let key = c.args.key.now in
    rw (p.1, p.2, c.in_ok-check_repeats.ensures.0) (first_with_more (repeated_names key) (unknown_columns c.args.table.now (set ++ key)) c.in_err-check_repeats-2.field-0.0 c.in_err-check_repeats-2.ensures)

pub returns : goal.returns
returns c = rw (c.in_ok-check_repeats.ensures.0, c.in_ok-check_repeats-2.ensures.0) c.both_places.ensures
