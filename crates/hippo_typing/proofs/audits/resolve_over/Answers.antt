use Rattle.std.proofs.Common.{◌≡◌, [], subst, ◌∙◌, rules}
use Rattle.hippo_typing_catalog.specs.Refusals.{IsFirstOf}
use Rattle.hippo_typing_catalog.specs.AuditExpressions.{audit_refused}
use Rattle.hippo_typing.specs.declared.audits.FoundAudit.{FoundAudit}
use Rattle.hippo_typing.specs.FoundAudits.{judged_refused, head_of_audit}
use Rattle.hippo_typing.proofs.AuditTheorem.{first_of_audit_columns, first_of_judged, none_of_audit, audit_of_found}
use Rattle.hippo_typing.proofs.PairLemmas.{paired_fault, paired_form}
use Rattle.hippo_typing_catalog.proofs.Refused.{first_with_more, with_four}
use Rattle.hippo_typing.proofs.audits.resolve_over.Goals as goal

pub returns-in_err-tables : goal.returns-in_err-tables
returns-in_err-tables c =
    let fault = c.in_err-tables.field-0.0 in
    let first : IsFirstOf (audit_refused c.args.catalog.now.names c.args.period.now c.args.audit.now) c.in_err-tables.field-0.0 =
    first_with_more _ _ fault (first_with_more _ _ fault (with_four _ _ _ _ _ fault c.in_err-tables.ensures)) in
    search rules

pub returns-in_err-found : goal.returns-in_err-found
returns-in_err-found c =
    let known = c.args.catalog.now.names in
    let first : IsFirstOf (audit_refused known c.args.period.now c.args.audit.now) c.in_err-found.field-0.0 =
    first_of_audit_columns known c.args.audit.now c.args.period.now c.in_ok-tables.tables c.in_ok-tables.ensures.1 c.in_ok-tables.ensures.0 c.in_err-found.field-0.0 c.in_err-found.ensures in
    search rules

pub returns-in_err-found-2 : goal.returns-in_err-found-2
returns-in_err-found-2 c =
    let known = c.args.catalog.now.names in
    let audit = c.args.audit.now in
    let period = c.args.period.now in
    let schemas = c.in_ok-tables.tables in
    let of_head = paired_fault c.in_ok-found.found (judged_refused schemas audit c.in_ok-found.found.cond period) (head_of_audit audit period) c.checked_audit-head.result c.in_err-found-2.field-0.0 c.in_err-found-2.ensures c.checked_audit-head.ensures in
    let first : IsFirstOf (audit_refused known period audit) c.in_err-found-2.field-0.0 =
    first_of_judged known audit period schemas c.in_ok-tables.ensures.1 c.in_ok-tables.ensures.0 c.in_err-found-2.field-0.0 c.in_ok-found.ensures.0 (subst (λ (f : FoundAudit). IsFirstOf (judged_refused schemas audit f.cond period) c.in_err-found-2.field-0.0) c.in_ok-found.ensures.1 of_head) in
    search rules

pub returns : goal.returns
returns c =
    let known = c.args.catalog.now.names in
    let audit = c.args.audit.now in
    let period = c.args.period.now in
    let schemas = c.in_ok-tables.tables in
    let made = paired_form c.in_ok-found.found (judged_refused schemas audit c.in_ok-found.found.cond period) (head_of_audit audit period) c.checked_audit-head.result c.in_ok-found-2.found c.in_ok-found-2.head c.in_ok-found-2.ensures c.checked_audit-head.ensures in
    let checked = subst (λ (f : FoundAudit). judged_refused schemas audit f.cond period ≡ []) c.in_ok-found.ensures.1 made.0 in (
      none_of_audit known audit period schemas c.in_ok-tables.ensures.1 c.in_ok-tables.ensures.0 c.in_ok-found.ensures.0 checked,
      c.audit_of.ensures ∙ audit_of_found known audit period schemas c.in_ok-tables.ensures.1 c.in_ok-tables.ensures.0 c.in_ok-found-2.found c.in_ok-found-2.head (made.1 ∙ c.in_ok-found.ensures.1) made.2,
    )
