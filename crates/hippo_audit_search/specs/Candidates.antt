-- The first virtual tuple that passes a test, when the places of those that pass are given.
use Rattle.std.specs.Prelude.{◌≡◌, Bool, ◌&&◌, List, map, find, Option}
use Rattle.hippo_values.specs.declared.names.Name.{Name}
use Rattle.hippo_model.specs.declared.audit.Audit.{Audit}
use Rattle.hippo_model.specs.declared.audit.SharedRow.{SharedRow}
use Rattle.hippo_model.specs.declared.query.Expr.{Expr}
use Rattle.hippo_model.specs.declared.query.Masked.{Masked}
use Rattle.hippo_model.specs.Terms.{Place}
use Rattle.hippo_model.specs.Masking.{Choices}
use Rattle.hippo_tables_keyed.specs.RowSets.{KeyedRows}
use Rattle.hippo_join_stages.specs.Finding.{has_places}
use Rattle.hippo_join_lookups.specs.Places.{in_range}
use Rattle.hippo_audit_common.specs.Commons.{common_tables, place_in}
use Rattle.hippo_audit_search.specs.Sharing.{rows_named, virtual_tuples_in, query_has, audit_has}
use Rattle.hippo_audit_search.specs.Tuples.{tuple_at}

-- these are the places of the rows of the virtual tuples that pass the test
abbrev pub AreCandidates :
    (List SharedRow → Bool) → List Name → List KeyedRows → List Name → List (List Place) → Type 0
AreCandidates test names sets common candidates =
    (places : List Place) → has_places places candidates
    ≡ (in_range (map (rows_named names sets) common) places
    && test (tuple_at names sets (map (place_in names) common) places))

-- the first virtual tuple that passes the test and that a combination of each side has
abbrev pub first_passing :
    (List SharedRow → Bool) → Choices → Masked → Audit → List Expr → List KeyedRows → List KeyedRows
    → Option (List SharedRow)
first_passing test choices query audit seen query_sets audit_sets =
    find (λ tuple. test tuple && query_has choices query seen query_sets tuple
    && audit_has audit audit_sets tuple)
    (virtual_tuples_in audit.tables audit_sets (common_tables query.tables audit.tables))
