-- The rows of two sides, found by the names of the tables.
use Rattle.std.proofs.Common.{◌≡◌, true, List, [], ◌∷◌, map, sym, ap, ◌∙◌}
use Rattle.std.specs.Prelude.{bytes_eq}
use Rattle.std.specs.List.{AllByRecursion, list_any}
use Rattle.std.proofs.lemmas.List.{get_or-map}
use Rattle.std.proofs.lemmas.List.Elements.{All-from_recursion}
use Rattle.hippo_values.specs.declared.names.Name.{Name}
use Rattle.hippo_tables_keyed.specs.RowSets.{KeyedRows}
use Rattle.hippo_audit_common.specs.Commons.{common_tables, place_in}
use Rattle.hippo_audit_search.specs.Sharing.{HaveSameRows, rows_named}
use Rattle.hippo_audit_search.proofs.CommonLemmas.{place-found, common-in-query, common-in-audit}

module _ (rows : Name → KeyedRows) where
  named : (tables : List Name) (table : Name) → list_any (bytes_eq table) tables ≡ true → rows_named tables (map rows tables) table ≡ rows table
  named tables table has =
      let found = place-found tables table has in
      get_or-map rows tables (place_in tables table) [] (record { key = []; rows = [] }) found.0 ∙ ap rows found.1

  -- if both sides have each table's rows by its name, they have the same rows
  pub same_rows : (query audit : List Name) → HaveSameRows query (map rows query) audit (map rows audit)
  same_rows query audit =
      All-from_recursion (λ table. rows_named query (map rows query) table ≡ rows_named audit (map rows audit) table) (common_tables query audit)
      (each (common_tables query audit) (common-in-query query audit) (common-in-audit query audit))
    where
      each : (tables : List Name) → AllByRecursion (λ table. list_any (bytes_eq table) query ≡ true) tables → AllByRecursion (λ table. list_any (bytes_eq table) audit ≡ true) tables
          → AllByRecursion (λ table. rows_named query (map rows query) table ≡ rows_named audit (map rows audit) table) tables
      each [] here there = tt
      each (table ∷ tables) here there = (named query table here.0 ∙ sym (named audit table there.0), each tables here.1 there.1)
