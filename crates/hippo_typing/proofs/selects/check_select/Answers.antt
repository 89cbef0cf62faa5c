use Rattle.std.proofs.Common.{rules}
use Rattle.hippo_typing.specs.FoundSelects.{head_refused}
use Rattle.hippo_typing_catalog.specs.Refusals.{IsFirstOf}
use Rattle.hippo_typing_catalog.proofs.Refused.{first_of_four, second_of_four, third_of_four}
use Rattle.hippo_typing.proofs.selects.check_select.Goals as goal

pub returns-in_err-check_groups : goal.returns-in_err-check_groups
returns-in_err-check_groups c =
    let first : IsFirstOf (head_refused c.args.tables.now c.args.select.now c.args.found.now) c.in_err-check_groups.field-0.0 =
    first_of_four _ _ _ _ c.in_err-check_groups.field-0.0 c.in_err-check_groups.ensures in
    search rules

pub returns-in_err-check_kinds : goal.returns-in_err-check_kinds
returns-in_err-check_kinds c =
    let first : IsFirstOf (head_refused c.args.tables.now c.args.select.now c.args.found.now) c.in_err-check_kinds.field-0.0 =
    second_of_four _ _ _ _ c.in_err-check_kinds.field-0.0 c.in_ok-check_groups.ensures.0 c.in_err-check_kinds.ensures in
    search rules

pub returns-in_err-check_texts : goal.returns-in_err-check_texts
returns-in_err-check_texts c =
    let first : IsFirstOf (head_refused c.args.tables.now c.args.select.now c.args.found.now) c.in_err-check_texts.field-0.0 =
    third_of_four _ _ _ _ c.in_err-check_texts.field-0.0 c.in_ok-check_groups.ensures.0 c.in_ok-check_kinds.ensures.0 c.in_err-check_texts.ensures in
    search rules
