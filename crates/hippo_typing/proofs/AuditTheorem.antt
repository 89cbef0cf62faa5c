-- The checks of an audit expression, group by group, agree with its definition.
use Rattle.std.proofs.Common.{◌≡◌, List, [], ◌++◌, map, sym, ap, subst, ◌∙◌}
use Rattle.std.specs.Prelude.{unwrap_or}
use Rattle.std.specs.List.{flat_map}
use Rattle.hippo_values.specs.Moments.{first_moment}
use Rattle.hippo_model.specs.declared.audit.Audit.{Audit}
use Rattle.hippo_model.specs.declared.name_fault.NameFault.{NameFault}
use Rattle.hippo_model.specs.declared.schema.Schema.{Schema}
use Rattle.hippo_stmt_ast.specs.declared.statement.RawAudit.{RawAudit}
use Rattle.hippo_typing_catalog.specs.declared.period.Period.{Period}
use Rattle.hippo_typing_catalog.specs.Catalogs.{KnownNames, schemas_of}
use Rattle.hippo_typing_catalog.specs.Refusals.{IsFirstOf}
use Rattle.hippo_typing_catalog.specs.WrittenColumns.{column_refused, column_of}
use Rattle.hippo_typing_catalog.specs.Comparisons.{operands_refused, condition_of, kinds_refused, texts_refused}
use Rattle.hippo_typing_catalog.specs.AuditExpressions.{audit_parts_refused, period_refused, audit_refused, audit_of}
use Rattle.hippo_typing.specs.declared.audits.FoundAudit.{FoundAudit}
use Rattle.hippo_typing.specs.declared.audits.AuditHead.{AuditHead}
use Rattle.hippo_typing.specs.FoundAudits.{tables_refused, audit_columns_refused, audit_found, judged_refused, head_of_audit}
use Rattle.hippo_typing_catalog.proofs.Refused.{with_four}

module _ (known : KnownNames) (audit : RawAudit) (period : Period) (schemas : List Schema) (same : schemas ≡ schemas_of known audit.tables)
    (there : tables_refused known audit ≡ []) where
  of_columns : (s : List Schema) → tables_refused known audit ++ flat_map (column_refused s) audit.columns ++ operands_refused s audit.cond ≡ audit_columns_refused s audit
  of_columns s = ap (λ (l : List NameFault). l ++ flat_map (column_refused s) audit.columns ++ operands_refused s audit.cond) there

  pub first_of_audit_columns : (fault : NameFault) → IsFirstOf (audit_columns_refused schemas audit) fault → IsFirstOf (audit_refused known period audit) fault
  first_of_audit_columns fault first =
      let known_schemas : List Schema = schemas_of known audit.tables in
      let moved : IsFirstOf (audit_columns_refused known_schemas audit) fault = subst (λ (s : List Schema). IsFirstOf (audit_columns_refused s audit) fault) same first in
      with_four _ _ _ _ _ fault (subst (λ (l : List NameFault). IsFirstOf l fault) (sym (of_columns known_schemas)) moved)

  all_after : audit_columns_refused schemas audit ≡ [] → audit_refused known period audit ≡ judged_refused schemas audit (condition_of schemas audit.cond) period
  all_after none =
      let s : List Schema = schemas_of known audit.tables in
      let none_there : audit_columns_refused s audit ≡ [] = subst (λ (x : List Schema). audit_columns_refused x audit ≡ []) same none in
      ap (λ (before : List NameFault). before ++ kinds_refused s (condition_of s audit.cond) ++ texts_refused (condition_of s audit.cond) ++ audit_parts_refused audit ++ period_refused period) (of_columns s ∙ none_there)
      ∙ ap (λ (x : List Schema). judged_refused x audit (condition_of x audit.cond) period) (sym same)

  pub first_of_judged : (fault : NameFault) → audit_columns_refused schemas audit ≡ [] → IsFirstOf (judged_refused schemas audit (condition_of schemas audit.cond) period) fault → IsFirstOf (audit_refused known period audit) fault
  first_of_judged fault none first = subst (λ (l : List NameFault). IsFirstOf l fault) (sym (all_after none)) first

  pub none_of_audit : audit_columns_refused schemas audit ≡ [] → judged_refused schemas audit (condition_of schemas audit.cond) period ≡ [] → audit_refused known period audit ≡ []
  none_of_audit none none_after = all_after none ∙ none_after

  pub audit_of_found : (found : FoundAudit) (head : AuditHead) → found ≡ audit_found schemas audit → head ≡ head_of_audit audit period → (let made : Audit = record { from = head.from; to = head.to; exempt = head.exempt; shown = audit.shown; columns = found.columns; tables = head.tables; cond = found.cond } in made ≡ audit_of known period audit)
  audit_of_found found head is_found is_head =
      let from = unwrap_or period.from first_moment in
      let to = unwrap_or period.to first_moment in
      ap (λ (h : AuditHead). record { from = h.from; to = h.to; exempt = h.exempt; shown = audit.shown; columns = found.columns; tables = h.tables; cond = found.cond }) is_head
      ∙ ap (λ (f : FoundAudit). record { from = from; to = to; exempt = audit.exempt; shown = audit.shown; columns = f.columns; tables = audit.tables; cond = f.cond }) is_found
      ∙ ap (λ (s : List Schema). record { from = from; to = to; exempt = audit.exempt; shown = audit.shown; columns = map (column_of s) audit.columns; tables = audit.tables; cond = condition_of s audit.cond }) same
