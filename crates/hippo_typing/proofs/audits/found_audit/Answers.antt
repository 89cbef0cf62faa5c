use Rattle.std.proofs.Common.{◌≡◌, List, [], rules, subst}
use Rattle.std.specs.List.{flat_map}
use Rattle.hippo_stmt_ast.specs.declared.statement.RawColumn.{RawColumn}
use Rattle.hippo_typing_catalog.specs.Refusals.{IsFirstOf}
use Rattle.hippo_typing_catalog.specs.WrittenColumns.{column_refused}
use Rattle.hippo_typing_catalog.proofs.Refused.{first_after, first_with_more}
use Rattle.hippo_typing.specs.FoundAudits.{audit_columns_refused}
use Rattle.hippo_typing.proofs.audits.found_audit.Goals as goal

pub returns-in_err-columns : goal.returns-in_err-columns
returns-in_err-columns c =
    let fault = c.in_err-columns.field-0.0 in
    let of_columns = subst (λ (columns : List RawColumn). IsFirstOf (flat_map (column_refused c.args.tables.now) columns) fault) c.as_slice.ensures c.in_err-columns.ensures in
    let first : IsFirstOf (audit_columns_refused c.args.tables.now c.args.audit.now) c.in_err-columns.field-0.0 = first_with_more _ _ fault of_columns in
    search rules

pub returns-in_err-cond : goal.returns-in_err-cond
returns-in_err-cond c =
    let none = subst (λ (columns : List RawColumn). flat_map (column_refused c.args.tables.now) columns ≡ []) c.as_slice.ensures c.in_ok-columns.ensures.0 in
    let first : IsFirstOf (audit_columns_refused c.args.tables.now c.args.audit.now) c.in_err-cond.field-0.0 = first_after _ _ c.in_err-cond.field-0.0 none c.in_err-cond.ensures in
    search rules
