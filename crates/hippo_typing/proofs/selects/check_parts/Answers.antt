use Rattle.std.proofs.Common.{◌≡◌, ℕ, List, [], length, rules, subst}
use Rattle.hippo_stmt_ast.specs.declared.statement.RawOut.{RawOut}
use Rattle.hippo_values.specs.Limits.{from_limit, item_limit}
use Rattle.hippo_typing_catalog.specs.Refusals.{IsFirstOf}
use Rattle.hippo_typing_catalog.specs.Selects.{select_parts_refused}
use Rattle.hippo_typing_catalog.specs.StatementLimits.{too_many}
use Rattle.hippo_typing_catalog.proofs.Refused.{first_of_four, second_of_four, third_of_four}
use Rattle.hippo_typing.proofs.selects.check_parts.Goals as goal

pub returns-in_err-check_count : goal.returns-in_err-check_count
returns-in_err-check_count c =
    let fault = c.in_err-check_count.field-0.0 in
    let of_tables = subst (λ (n : ℕ). IsFirstOf (too_many from_limit n) fault) c.len.ensures c.in_err-check_count.ensures in
    let first : IsFirstOf (select_parts_refused c.args.select.now) c.in_err-check_count.field-0.0 = first_of_four _ _ _ _ fault of_tables in
    search rules

pub returns-in_err-check_count-2 : goal.returns-in_err-check_count-2
returns-in_err-check_count-2 c =
    let fault = c.in_err-check_count-2.field-0.0 in
    let few_tables = subst (λ (n : ℕ). too_many from_limit n ≡ []) c.len.ensures c.in_ok-check_count.ensures.0 in
    let of_items = subst (λ (n : ℕ). IsFirstOf (too_many item_limit n) fault) c.len-2.ensures c.in_err-check_count-2.ensures in
    let first : IsFirstOf (select_parts_refused c.args.select.now) c.in_err-check_count-2.field-0.0 = second_of_four _ _ _ _ fault few_tables of_items in
    search rules

pub returns-in_err-check_count-3 : goal.returns-in_err-check_count-3
returns-in_err-check_count-3 c =
    let fault = c.in_err-check_count-3.field-0.0 in
    let few_tables = subst (λ (n : ℕ). too_many from_limit n ≡ []) c.len.ensures c.in_ok-check_count.ensures.0 in
    let few_items = subst (λ (n : ℕ). too_many item_limit n ≡ []) c.len-2.ensures c.in_ok-check_count-2.ensures.0 in
    let of_outs = subst (λ (outs : List RawOut). IsFirstOf (too_many item_limit (length outs)) fault) c.outs_of.ensures c.in_err-check_count-3.ensures in
    let first : IsFirstOf (select_parts_refused c.args.select.now) c.in_err-check_count-3.field-0.0 = third_of_four _ _ _ _ fault few_tables few_items of_outs in
    search rules
