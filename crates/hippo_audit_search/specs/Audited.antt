-- The rows that an audit is compared over.
use Rattle.std.specs.Prelude.{◌≡◌, List, length, bytes_eq}
use Rattle.std.specs.List.{IsDistinct}
use Rattle.hippo_values.specs.declared.names.Name.{Name}
use Rattle.hippo_audit_search.specs.declared.audited.Audited.{Audited}
use Rattle.hippo_audit_search.specs.Sharing.{HaveSameRows}

-- the rows are those of the query's tables and of the audit's; a table that both have has the same
-- rows, and the audit names no table twice
pub record HasRowsFor {C : Type 0} (query : List Name) (audited : Audited C) : Type 0 where
  pub query_sets : length audited.query_sets.now ≡ length query
  pub audit_sets : length audited.audit_sets.now ≡ length audited.audit.now.tables
  pub tables : IsDistinct bytes_eq audited.audit.now.tables
  pub rows : HaveSameRows query audited.query_sets.now audited.audit.now.tables
      audited.audit_sets.now
