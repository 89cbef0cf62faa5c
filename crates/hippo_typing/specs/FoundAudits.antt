-- An audit expression with its columns resolved, before it is checked further.
use Rattle.std.specs.Prelude.{List, ◌++◌, map, flat_map, unwrap_or}
use Rattle.hippo_values.specs.Moments.{first_moment}
use Rattle.hippo_model.specs.declared.name_fault.NameFault.{NameFault}
use Rattle.hippo_model.specs.declared.query.CondOf.{CondOf}
use Rattle.hippo_model.specs.declared.query.Operand.{Operand}
use Rattle.hippo_model.specs.declared.schema.Schema.{Schema}
use Rattle.hippo_stmt_ast.specs.declared.statement.RawAudit.{RawAudit}
use Rattle.hippo_typing_catalog.specs.declared.period.Period.{Period}
use Rattle.hippo_typing_catalog.specs.Catalogs.{KnownNames}
use Rattle.hippo_typing_catalog.specs.Refusals.{unknown_table, unknown_pair, repeated_names}
use Rattle.hippo_typing_catalog.specs.WrittenColumns.{column_refused, column_of}
use Rattle.hippo_typing_catalog.specs.Comparisons.{operands_refused, condition_of, kinds_refused, texts_refused}
use Rattle.hippo_typing_catalog.specs.AuditExpressions.{audit_parts_refused, period_refused}
use Rattle.hippo_typing.specs.declared.audits.FoundAudit.{FoundAudit}
use Rattle.hippo_typing.specs.declared.audits.AuditHead.{AuditHead}

-- in order: unknown tables; exempt pairs; repeated tables
abbrev pub tables_refused : KnownNames → RawAudit → List NameFault
tables_refused known audit =
    flat_map (unknown_table known) audit.tables
    ++ flat_map (λ pair. unknown_pair known pair.purpose pair.recipient) audit.exempt
    ++ repeated_names audit.tables

abbrev pub audit_columns_refused : List Schema → RawAudit → List NameFault
audit_columns_refused schemas audit =
    flat_map (column_refused schemas) audit.columns ++ operands_refused schemas audit.cond

abbrev pub audit_found : List Schema → RawAudit → FoundAudit
audit_found schemas audit =
    record {
      columns = map (column_of schemas) audit.columns;
      cond = condition_of schemas
          audit.cond;
    }

-- in order: kinds; texts; the number of parts; the period
abbrev pub judged_refused : List Schema → RawAudit → CondOf Operand → Period → List NameFault
judged_refused schemas audit condition period =
    kinds_refused schemas condition ++ texts_refused condition ++ audit_parts_refused audit
    ++ period_refused period

abbrev pub head_of_audit : RawAudit → Period → AuditHead
head_of_audit audit period =
    record {
      from = unwrap_or period.from first_moment;
      to = unwrap_or period.to first_moment;
      exempt = audit.exempt;
      tables = audit.tables;
    }
