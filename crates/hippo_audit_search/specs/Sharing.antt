-- The first rows that a query and an audit share, over the rows of their tables (after the
-- indispensable tuples of Agrawal and others, Auditing Compliance with a Hippocratic Database, VLDB
-- 2004).
use Rattle.std.specs.Prelude.{◌≡◌, Bool, ◌&&◌, List, [], map, find, Option, slice_index_or}
use Rattle.std.specs.List.{All, list_any, list_all}
use Rattle.hippo_values.specs.declared.names.Name.{Name}
use Rattle.hippo_values.specs.Order.{same_cells}
use Rattle.hippo_model.specs.declared.audit.Audit.{Audit}
use Rattle.hippo_model.specs.declared.audit.SharedRow.{SharedRow}
use Rattle.hippo_model.specs.declared.query.Expr.{Expr}
use Rattle.hippo_model.specs.declared.query.Masked.{Masked}
use Rattle.hippo_model.specs.Terms.{Combination, Key}
use Rattle.hippo_model.specs.Answers.{product, passes}
use Rattle.hippo_model.specs.Masking.{Choices, is_guarded, masked_passes}
use Rattle.hippo_tables_keyed.specs.RowSets.{KeyedRows, key_in}
use Rattle.hippo_eval.specs.Unmasked.{all_shown}
use Rattle.hippo_eval.specs.Walks.{rows_of}
use Rattle.hippo_join.specs.Existence.{are_shown}
use Rattle.hippo_join_lookups.specs.Places.{blank}
use Rattle.hippo_audit_common.specs.Commons.{common_tables, place_in}

-- the rows of the table with this name
abbrev pub rows_named : List Name → List KeyedRows → Name → KeyedRows
rows_named tables sets table =
    slice_index_or sets (place_in tables table) (record { key = []; rows = [] })

-- both sides have the same rows in the tables that they have in common
abbrev pub HaveSameRows : List Name → List KeyedRows → List Name → List KeyedRows → Type 0
HaveSameRows query query_sets audit audit_sets =
    All (λ table. rows_named query query_sets table ≡ rows_named audit audit_sets table)
    (common_tables query audit)

-- the rows of a table by their keys
abbrev pub shared_rows_in : List Name → List KeyedRows → Name → List SharedRow
shared_rows_in tables sets table =
    let set = rows_named tables sets table in
    map (λ kept. record { table = table; key = key_in set.key kept }) set.rows

-- the virtual tuples: each is a row of each common table, and they are in the order of the product
abbrev pub virtual_tuples_in : List Name → List KeyedRows → List Name → List (List SharedRow)
virtual_tuples_in tables sets common = product (map (shared_rows_in tables sets) common)

-- the key of a combination's row of one of its tables
abbrev pub shared_key_in : List Name → List KeyedRows → Combination → Name → Key
shared_key_in tables sets rows table =
    key_in (rows_named tables sets table).key (slice_index_or rows (place_in tables table) blank)

-- whether a combination's rows have exactly the keys of a virtual tuple
abbrev pub has_tuple_in : List Name → List KeyedRows → List SharedRow → Combination → Bool
has_tuple_in tables sets tuple rows =
    list_all (λ shared. same_cells (shared_key_in tables sets rows shared.table) shared.key) tuple

-- whether some combination of a query's rows has the tuple, makes a row of its answer and shows all
-- wanted cells
abbrev pub query_has : Choices → Masked → List Expr → List KeyedRows → List SharedRow → Bool
query_has choices query seen sets tuple =
    let counts : Combination → Bool = λ rows.
    is_guarded choices query rows && masked_passes choices query rows
    && are_shown choices seen rows in
    list_any (λ rows. has_tuple_in query.tables sets tuple rows && counts rows)
    (product (rows_of sets))

-- whether an audit's condition is true of some combination of unmasked rows that has the tuple
abbrev pub audit_has : Audit → List KeyedRows → List SharedRow → Bool
audit_has audit sets tuple =
    list_any (λ rows. has_tuple_in audit.tables sets tuple rows
    && passes audit.cond (all_shown rows))
    (product (rows_of sets))

-- the first virtual tuple that a combination of each side has
abbrev pub first_shared :
    Choices → Masked → Audit → List Expr → List KeyedRows → List KeyedRows → Option (List SharedRow)
first_shared choices query audit seen query_sets audit_sets =
    find (λ tuple. query_has choices query seen query_sets tuple
    && audit_has audit audit_sets tuple)
    (virtual_tuples_in audit.tables audit_sets (common_tables query.tables audit.tables))
