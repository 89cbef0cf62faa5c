-- Laws that relate tuples shared over given rows to the definitions over a history.
use Rattle.std.specs.Prelude.{◌≡◌, true, List, [], map, bytes_eq}
use Rattle.std.specs.List.{AllByRecursion, list_any}
use Rattle.std.specs.Option.{option_map_or}
use Rattle.hippo_values.specs.declared.names.Name.{Name}
use Rattle.hippo_model.specs.declared.audit.Audit.{Audit}
use Rattle.hippo_model.specs.declared.audit.SharedRow.{SharedRow}
use Rattle.hippo_model.specs.declared.query.Query.{Query}
use Rattle.hippo_model.specs.Terms.{History}
use Rattle.hippo_model.specs.Histories.{schema_at}
use Rattle.hippo_tables_keyed.specs.RowSets.{KeyedRows, kept_at}
use Rattle.hippo_model.specs.Audits.{common, virtual_tuples as tuples_at, audit_needs}
use Rattle.hippo_audit_common.specs.Commons.{common_tables}
use Rattle.hippo_audit_search.specs.Sharing.{virtual_tuples_in, audit_has}

-- the rows of tables after some entries; a table that is not created has none
abbrev pub sets_at : History → List Name → List KeyedRows
sets_at history tables =
    map (λ table. option_map_or (λ schema. kept_at schema history) (schema_at history table)
    (record { key = []; rows = [] })) tables

-- over the rows of a history, the virtual tuples are those of the history
abbrev pub TuplesAreThoseOfHistory : Type 0
TuplesAreThoseOfHistory =
    (history : History) (query : Query) (audit : Audit)
    → virtual_tuples_in audit.tables (sets_at history audit.tables)
    (common_tables query.tables audit.tables)
    ≡ tuples_at history (common query audit)

-- an audit needs a tuple of rows of its tables exactly when its condition is true of some
-- combination that has the tuple
abbrev pub AuditNeedsWhatItHas : Type 0
AuditNeedsWhatItHas =
    (history : History) (audit : Audit) (tuple : List SharedRow)
    → AllByRecursion (λ shared. list_any (bytes_eq shared.table) audit.tables ≡ true) tuple
    → audit_needs history audit tuple ≡ audit_has audit (sets_at history audit.tables) tuple
