-- The expressions that a query must have shown for an audit.
use Rattle.std.specs.Prelude.{◌≡◌, ◌<◌, true, List, [], map, length, slice_get, slice_index_or, bytes_eq, if◌then◌else◌, IfSome}
use Rattle.std.specs.List.{AllByRecursion, list_any}
use Rattle.std.specs.Option.{option_map_or}
use Rattle.hippo_values.specs.declared.names.Name.{Name}
use Rattle.hippo_model.specs.declared.audit.Audit.{Audit}
use Rattle.hippo_model.specs.declared.policy.TableRules.{TableRules}
use Rattle.hippo_model.specs.declared.query.Expr.{Expr}
use Rattle.hippo_model.specs.declared.query.Query.{Query}
use Rattle.hippo_model.specs.declared.query.Ref.{Ref}
use Rattle.hippo_model.specs.Terms.{History}
use Rattle.hippo_model.specs.Histories.{schema_at}
use Rattle.hippo_rewrite.specs.Rewriting.{masked_column}
use Rattle.hippo_audit_common.specs.Commons.{place_in}

-- an audited column with the place of its table in the query; that place is the number of the
-- query's tables if the query does not have the table
abbrev pub column_in_query : List Name → List Name → Ref → Ref
column_in_query query audit column = record {
  table = option_map_or (place_in query) (slice_get audit column.table) (length query);
  column = column.column;
}

-- the expressions that must be shown to a query: if the audit asks for cells that were shown, the
-- masked column of each audited column
abbrev pub required_shown : List TableRules → Query → Audit → List Expr
required_shown rules query audit =
    if audit.shown then map (masked_column rules)
    (map (column_in_query query.tables audit.tables) audit.columns) else []

-- an audited column belongs to a created table that the query has too
abbrev pub IsCommon : History → Query → Audit → Ref → Type 0
IsCommon history query audit column =
    let table = slice_index_or audit.tables column.table [] in
    (column.table < length audit.tables) × (list_any (bytes_eq table) query.tables ≡ true)
    × IfSome (schema_at history table) (λ schema. column.column < length schema.columns)

abbrev pub AreCommonColumns : History → Query → Audit → Type 0
AreCommonColumns history query audit = AllByRecursion (IsCommon history query audit) audit.columns
