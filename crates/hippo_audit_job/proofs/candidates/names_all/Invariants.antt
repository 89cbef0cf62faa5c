use Rattle.std.proofs.Common.{◌≡◌, drop}
use Rattle.std.specs.List.{list_any, list_all}
use Rattle.hippo_model.specs.Columns.{query_columns, named_column, same_column, names_all}
use Rattle.hippo_audit_job.proofs.candidates.names_all.Given as goal

abbrev pub invariant-loop-column : goal.invariant-loop-column
invariant-loop-column l =
    names_all l.query l.audit
    ≡ list_all (λ column. list_any (same_column (named_column l.audit.tables column)) (query_columns l.query)) (drop l.column-index l.audit.columns)
