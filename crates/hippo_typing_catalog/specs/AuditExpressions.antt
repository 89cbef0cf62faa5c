-- Why an audit expression is refused, and what it means.
use Rattle.std.specs.Prelude.{ℤ, MatchOption, Bool, false, not, ◌||◌, List, ◌++◌, map, flat_map, length, int_le, Option, is_none, unwrap_or}
use Rattle.std.specs.Option.{option_map_or}
use Rattle.hippo_values_text.specs.Dates.{IsMomentText}
use Rattle.hippo_values.specs.Moments.{first_moment}
use Rattle.hippo_values.specs.Texts.{Txt}
use Rattle.hippo_values.specs.declared.moments.Moment.{Moment}
use Rattle.hippo_model.specs.declared.name_fault.NameFault.{NameFault}
use Rattle.hippo_model.specs.declared.name_fault.NameFault.TheVariants.{BadMoment, PeriodBack}
use Rattle.hippo_model.specs.declared.audit.Audit.{Audit}
use Rattle.hippo_stmt_ast.specs.declared.statement.RawAudit.{RawAudit}
use Rattle.hippo_typing_catalog.specs.declared.period.Period.{Period}
use Rattle.hippo_typing_catalog.specs.Catalogs.{KnownNames, schemas_of}
use Rattle.hippo_typing_catalog.specs.Refusals.{fault_if, unknown_table, unknown_pair, repeated_names}
use Rattle.hippo_typing_catalog.specs.WrittenColumns.{column_refused, column_of}
use Rattle.hippo_typing_catalog.specs.Comparisons.{operands_refused, condition_of, kinds_refused, texts_refused}
use Rattle.hippo_values.specs.Limits.{from_limit, item_limit, pair_limit}
use Rattle.hippo_typing_catalog.specs.StatementLimits.{too_many}

-- the moment that a text writes, if it writes one
abbrev pub IsMomentIn : Txt → Option Moment → Type 0
IsMomentIn text moment =
    MatchOption moment ((second : ℤ) → ¬ (IsMomentText text second))
    (λ second. IsMomentText text second)

-- the period's ends are the moments that the audit's texts write
pub record IsPeriodOf (audit : RawAudit) (period : Period) : Type 0 where
  pub from : IsMomentIn audit.from period.from
  pub to : IsMomentIn audit.to period.to

-- the limits: four tables, 128 audited columns, 64 exempt pairs
abbrev pub audit_parts_refused : RawAudit → List NameFault
audit_parts_refused audit =
    too_many from_limit (length audit.tables) ++ too_many item_limit (length audit.columns)
    ++ too_many pair_limit (length audit.exempt)

-- whether a period ends before it begins
abbrev pub goes_back : Moment → Moment → Bool
goes_back from to = not (int_le from to)

-- both texts must be moments, and the end not before the beginning
abbrev pub period_refused : Period → List NameFault
period_refused period =
    fault_if (is_none period.from || is_none period.to) BadMoment
    ++ fault_if (option_map_or (λ from. option_map_or (goes_back from) period.to false) period.from
    false) PeriodBack

-- in order: unknown tables; exempt pairs; repeated tables; columns; kinds; texts; the number of
-- parts; the period
abbrev pub audit_refused : KnownNames → Period → RawAudit → List NameFault
audit_refused known period audit =
    let schemas = schemas_of known audit.tables in
    flat_map (unknown_table known) audit.tables
    ++ flat_map (λ pair. unknown_pair known pair.purpose pair.recipient) audit.exempt
    ++ repeated_names audit.tables ++ flat_map (column_refused schemas) audit.columns
    ++ operands_refused schemas audit.cond
    ++ kinds_refused schemas (condition_of schemas audit.cond)
    ++ texts_refused (condition_of schemas audit.cond) ++ audit_parts_refused audit
    ++ period_refused period

-- what an audit expression means
abbrev pub audit_of : KnownNames → Period → RawAudit → Audit
audit_of known period audit =
    let schemas = schemas_of known audit.tables in
    record {
      from = unwrap_or period.from first_moment;
      to = unwrap_or period.to first_moment;
      exempt = audit.exempt;
      shown = audit.shown;
      columns = map (column_of schemas) audit.columns;
      tables = audit.tables;
      cond = condition_of schemas audit.cond;
    }
