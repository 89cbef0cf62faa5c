-- The groups are checked one after the other, each after groups without refusals.
use Rattle.std.proofs.lemmas.Result.{err_from_is_err_and}
use Rattle.hippo_typing_catalog.specs.Refusals.{unknown_table, unknown_pair}
use Rattle.hippo_typing_catalog.specs.ChangesRefused.{in_table, unknown_item_if_any, rule_refused, rule_item_refused}
use Rattle.hippo_typing_catalog.proofs.Refused.{first_with_more, with_four, first_of_three, first_of_four}
use Rattle.hippo_typing_changes.proofs.rules.check_rule.Goals as goal

pub returns-in_err-found : goal.returns-in_err-found
returns-in_err-found c =
    let p = err_from_is_err_and c.from_residual.result c.from_residual.ensures.1 in
    let known = c.args.catalog.now.names in
    let table = c.args.table.now in
    rw (p.1, p.2) (with_four (unknown_table known table) (unknown_pair known c.args.purpose.now c.args.recipient.now) (unknown_item_if_any known c.args.item.now) (in_table known table (rule_refused c.args.columns.now)) (in_table known table (rule_item_refused c.args.item.now)) c.in_err-found.field-0.0 c.in_err-found.ensures.fault)

pub returns-in_err-check_pair : goal.returns-in_err-check_pair
returns-in_err-check_pair c =
    let p = err_from_is_err_and c.from_residual-in_err-check_pair.result c.from_residual-in_err-check_pair.ensures.1 in
    let known = c.args.catalog.now.names in
    let table = c.in_ok-found.found.now in
    rw (p.1, p.2, c.in_ok-found.ensures.found) (first_of_four (unknown_pair known c.args.purpose.now c.args.recipient.now) (unknown_item_if_any known c.args.item.now) (rule_refused c.args.columns.now table) (rule_item_refused c.args.item.now table) c.in_err-check_pair.field-0.0 c.in_err-check_pair.ensures)

pub returns-in_err-check_item_if_any : goal.returns-in_err-check_item_if_any
returns-in_err-check_item_if_any c =
    let p = err_from_is_err_and c.from_residual-in_err-check_item_if_any.result c.from_residual-in_err-check_item_if_any.ensures.1 in
    let table = c.in_ok-found.found.now in
    rw (p.1, p.2, c.in_ok-found.ensures.found, c.in_ok-check_pair.ensures.0) (first_of_three (unknown_item_if_any c.args.catalog.now.names c.args.item.now) (rule_refused c.args.columns.now table) (rule_item_refused c.args.item.now table) c.in_err-check_item_if_any.field-0.0 c.in_err-check_item_if_any.ensures)

pub returns-in_err-columns : goal.returns-in_err-columns
returns-in_err-columns c =
    let p = err_from_is_err_and c.from_residual-in_err-columns.result c.from_residual-in_err-columns.ensures.1 in
    let table = c.in_ok-found.found.now in
    rw (p.1, p.2, c.in_ok-found.ensures.found, c.in_ok-check_pair.ensures.0, c.in_ok-check_item_if_any.ensures.0) (first_with_more (rule_refused c.args.columns.now table) (rule_item_refused c.args.item.now table) c.in_err-columns.field-0.0 (rw (c.as_slice.ensures) at c.in_err-columns.ensures))
