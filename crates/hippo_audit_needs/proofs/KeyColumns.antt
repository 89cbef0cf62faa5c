-- The key columns of a virtual tuple's rows, over view rows and over unmasked rows.
use Rattle.std.proofs.Common.{◌≡◌, zero, suc, true, List, [], ◌∷◌, map, get_or, refl, sym, ap, ◌∙◌, Option, Some, None}
use Rattle.std.specs.Prelude.{bytes_eq}
use Rattle.std.specs.List.{flat_map, list_any}
use Rattle.std.specs.Option.{option_map_or}
use Rattle.hippo_values.specs.declared.names.Name.{Name}
use Rattle.hippo_values.specs.declared.values.Value.TheVariants.{Null}
use Rattle.hippo_model.specs.declared.audit.SharedRow.{SharedRow}
use Rattle.hippo_model.specs.declared.cells.Cell.TheVariants.{Denied}
use Rattle.hippo_model.specs.declared.query.Ref.{Ref}
use Rattle.hippo_model.specs.declared.schema.Schema.{Schema}
use Rattle.hippo_model.specs.Terms.{History, Combination, ShownRow, Place}
use Rattle.hippo_model.specs.Histories.{schema_at}
use Rattle.hippo_model.specs.Rows.{cell_at, key_of}
use Rattle.hippo_tables_keyed.specs.RowSets.{KeyedRows, key_in}
use Rattle.hippo_model.specs.Forms.{value_in}
use Rattle.hippo_model.specs.Answers.{cell_in}
use Rattle.hippo_model.specs.Audits.{key_at as key_at_history}
use Rattle.hippo_model.specs.Masking.{raw_value}
use Rattle.hippo_join_lookups.specs.Places.{blank}
use Rattle.hippo_audit_common.specs.Commons.{place_in}
use Rattle.hippo_audit_search.specs.Sharing.{shared_key_in}
use Rattle.hippo_audit_search.specs.HistoryLaws.{sets_at}
use Rattle.hippo_audit_search.proofs.HistoryLemmas.{rows_by, set_is}

abbrev pub at : Place → Place → Ref
at table column = record { table = table; column = column }

map_same : {X Y : Type 0} (f g : X → Y) → ((x : X) → f x ≡ g x) → (xs : List X) → map f xs ≡ map g xs
map_same f g same [] = refl
map_same f g same (x ∷ xs) = λ i. same x i ∷ map_same f g same xs i

value_got : (row : ShownRow) (column : Place) → get_or (map value_in row) column Null ≡ value_in (get_or row column (Denied 0))
value_got [] column = refl
value_got (cell ∷ row) zero = refl
value_got (cell ∷ row) (suc column) = value_got row column

raw_got : (rows : Combination) (place column : Place) → cell_at (get_or rows place blank).row column ≡ raw_value rows (at place column)
raw_got [] place column = refl
raw_got (kept ∷ rows) zero column = refl
raw_got (kept ∷ rows) (suc place) column = raw_got rows place column

module _ (history : History) (tables : List Name) where
  abbrev pub key_by : Option Schema → List Place
  key_by schema = option_map_or (λ made. made.key) schema []

  -- the key columns of a table, by its place among the tables
  abbrev pub key_columns : Name → List Ref
  key_columns table = map (at (place_in tables table)) (key_by (schema_at history table))

  abbrev pub tuple_columns : List SharedRow → List Ref
  tuple_columns tuple = flat_map (λ shared. key_columns shared.table) tuple

  pub key-seen : (rows : List ShownRow) (table : Name) → key_at_history history tables rows table ≡ map (λ column. value_in (cell_in rows (at (place_in tables table) column))) (key_by (schema_at history table))
  key-seen rows table = by (schema_at history table)
    where
      by : (schema : Option Schema) → option_map_or (λ made. key_of made.key (map value_in (get_or rows (place_in tables table) []))) schema [] ≡ map (λ column. value_in (cell_in rows (at (place_in tables table) column))) (key_by schema)
      by None = refl
      by (Some schema) =
          map_same (cell_at (map value_in (get_or rows (place_in tables table) []))) (λ column. value_in (cell_in rows (at (place_in tables table) column)))
          (value_got (get_or rows (place_in tables table) [])) schema.key

  pub key-raw : (rows : Combination) (table : Name) → list_any (bytes_eq table) tables ≡ true
      → map (λ column. raw_value rows (at (place_in tables table) column)) (key_by (schema_at history table)) ≡ shared_key_in tables (sets_at history tables) rows table
  key-raw rows table stands =
      sym (map_same (λ column. cell_at (get_or rows (place_in tables table) blank).row column) (λ column. raw_value rows (at (place_in tables table) column))
      (raw_got rows (place_in tables table)) (key_by (schema_at history table)))
      ∙ keyed (schema_at history table)
      ∙ sym (ap (λ (set : KeyedRows). key_in set.key (get_or rows (place_in tables table) blank)) (set_is history tables table stands))
    where
      keyed : (schema : Option Schema) → map (λ column. cell_at (get_or rows (place_in tables table) blank).row column) (key_by schema) ≡ key_in (rows_by history schema).key (get_or rows (place_in tables table) blank)
      keyed None = refl
      keyed (Some schema) = refl
