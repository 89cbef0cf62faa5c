use Rattle.std.proofs.Common.{rules}
use Rattle.hippo_typing.specs.FoundAudits.{judged_refused}
use Rattle.hippo_typing_catalog.specs.Refusals.{IsFirstOf}
use Rattle.hippo_typing_catalog.proofs.Refused.{first_of_four, fourth_of_four, second_of_four, third_of_four}
use Rattle.hippo_typing.proofs.audits.checked_audit.Goals as goal

pub returns-in_err-check_kinds : goal.returns-in_err-check_kinds
returns-in_err-check_kinds c =
    let first : IsFirstOf (judged_refused c.args.tables.now c.args.audit.now c.args.cond.now c.args.period.now) c.in_err-check_kinds.field-0.0 =
    first_of_four _ _ _ _ c.in_err-check_kinds.field-0.0 c.in_err-check_kinds.ensures in
    search rules

pub returns-in_err-check_texts : goal.returns-in_err-check_texts
returns-in_err-check_texts c =
    let first : IsFirstOf (judged_refused c.args.tables.now c.args.audit.now c.args.cond.now c.args.period.now) c.in_err-check_texts.field-0.0 =
    second_of_four _ _ _ _ c.in_err-check_texts.field-0.0 c.in_ok-check_kinds.ensures.0 c.in_err-check_texts.ensures in
    search rules

pub returns-in_err-check_parts : goal.returns-in_err-check_parts
returns-in_err-check_parts c =
    let first : IsFirstOf (judged_refused c.args.tables.now c.args.audit.now c.args.cond.now c.args.period.now) c.in_err-check_parts.field-0.0 =
    third_of_four _ _ _ _ c.in_err-check_parts.field-0.0 c.in_ok-check_kinds.ensures.0 c.in_ok-check_texts.ensures.0 c.in_err-check_parts.ensures in
    search rules

pub returns-in_err-from : goal.returns-in_err-from
returns-in_err-from c =
    let first : IsFirstOf (judged_refused c.args.tables.now c.args.audit.now c.args.cond.now c.args.period.now) c.in_err-from.field-0.0 =
    fourth_of_four _ _ _ _ c.in_err-from.field-0.0 c.in_ok-check_kinds.ensures.0 c.in_ok-check_texts.ensures.0 c.in_ok-check_parts.ensures.0 c.in_err-from.ensures in
    search rules
