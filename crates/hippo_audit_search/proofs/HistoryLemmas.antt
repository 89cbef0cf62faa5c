-- Virtual tuples and unmasked rows of a history.
use Rattle.std.proofs.Common.{◌≡◌, ℕ, zero, suc, ◌<◌, Bool, true, ◌&&◌, ◌||◌, ◌++◌, List, [], ◌∷◌, map, length, get_or, refl, sym, ap, ◌∙◌, Option, Some, None, arith}
use Rattle.std.specs.Prelude.{bytes_eq}
use Rattle.std.specs.List.{AllByRecursion, flat_map, list_any}
use Rattle.std.specs.Option.{option_map_or}
use Rattle.std.proofs.lemmas.List.Folds.{flat_map-map}
use Rattle.hippo_values.specs.declared.names.Name.{Name}
use Rattle.hippo_values.specs.Order.{same_cells}
use Rattle.hippo_model.specs.declared.audit.Audit.{Audit}
use Rattle.hippo_model.specs.declared.audit.SharedRow.{SharedRow}
use Rattle.hippo_model.specs.declared.born_row.BornRow.{BornRow}
use Rattle.hippo_model.specs.declared.cells.Cell.TheVariants.{Shown}
use Rattle.hippo_model.specs.declared.query.Query.{Query}
use Rattle.hippo_model.specs.declared.schema.Schema.{Schema}
use Rattle.hippo_model.specs.Terms.{History, Combination, Row, ShownRow}
use Rattle.hippo_model.specs.Histories.{schema_at}
use Rattle.hippo_model.specs.Rows.{key_of, table_rows}
use Rattle.hippo_tables_keyed.specs.RowSets.{KeyedRows, kept_at, key_in}
use Rattle.hippo_model.specs.Views.{unmasked_at}
use Rattle.hippo_model.specs.Forms.{value_in}
use Rattle.hippo_model.specs.Answers.{product, passes, unmasked_combinations}
use Rattle.hippo_model.specs.Audits.{common, shared_rows as rows_at_history, virtual_tuples as tuples_at, key_at as key_at_history, has_tuple as has_tuple_at}
use Rattle.hippo_model_laws.specs.Needs.{has_true}
use Rattle.hippo_eval.specs.Unmasked.{all_shown}
use Rattle.hippo_eval.specs.Walks.{rows_of}
use Rattle.hippo_join_lookups.specs.Places.{blank}
use Rattle.hippo_join_stages.proofs.ProductLemmas.{map-map, map-flat_map}
use Rattle.hippo_audit_common.specs.Commons.{common_tables, place_in}
use Rattle.hippo_audit_search.specs.Sharing.{rows_named, shared_rows_in, virtual_tuples_in, shared_key_in, has_tuple_in, audit_has}
use Rattle.hippo_audit_search.specs.HistoryLaws.{sets_at}
use Rattle.hippo_audit_search.proofs.CommonLemmas.{place-found, common-in-audit}
use Rattle.hippo_audit_search.proofs.TupleLemmas.{no_rows}

map_same : {X Y : Type 0} (f g : X → Y) (xs : List X) → AllByRecursion (λ x. f x ≡ g x) xs → map f xs ≡ map g xs
map_same f g [] all = refl
map_same f g (x ∷ xs) all = λ i. all.0 i ∷ map_same f g xs all.1 i

all_from : {X : Type 0} (P Q : X → Type 0) → ((x : X) → P x → Q x) → (xs : List X) → AllByRecursion P xs → AllByRecursion Q xs
all_from P Q stage [] all = tt
all_from P Q stage (x ∷ xs) all = (stage x all.0, all_from P Q stage xs all.1)

get_map : {X Y : Type 0} (f : X → Y) (xs : List X) (k : ℕ) (d : X) (e : Y) → k < length xs → get_or (map f xs) k e ≡ f (get_or xs k d)
get_map f [] k d e within = absurd (omega arith)
get_map f (x ∷ xs) zero d e within = refl
get_map f (x ∷ xs) (suc k) d e within = get_map f xs k d e (omega arith)

module _ (history : History) where
  -- the rows of a table, which may not be created
  abbrev pub rows_by : Option Schema → KeyedRows
  rows_by schema = option_map_or (λ made. kept_at made history) schema no_rows

  pub set_is : (tables : List Name) (table : Name) → list_any (bytes_eq table) tables ≡ true → rows_named tables (sets_at history tables) table ≡ rows_by (schema_at history table)
  set_is tables table has =
      let found = place-found tables table has in
      get_map (λ (name : Name). rows_by (schema_at history name)) tables (place_in tables table) [] no_rows found.0 ∙ ap (λ (name : Name). rows_by (schema_at history name)) found.1

  rows_are : (tables : List Name) (table : Name) → list_any (bytes_eq table) tables ≡ true → shared_rows_in tables (sets_at history tables) table ≡ rows_at_history history table
  rows_are tables table has = ap (λ (set : KeyedRows). map (λ kept. by_key set kept) set.rows) (set_is tables table has) ∙ by (schema_at history table)
    where
      by_key : KeyedRows → BornRow → SharedRow
      by_key set kept = record { table = table; key = key_in set.key kept }

      by : (schema : Option Schema) → map (λ kept. by_key (rows_by schema) kept) (rows_by schema).rows
          ≡ option_map_or (λ made. map (λ (kept : BornRow). record { table = table; key = key_of made.key kept.row }) (table_rows made history)) schema []
      by None = refl
      by (Some schema) = refl

  pub tuples-are : (query : Query) (audit : Audit) → virtual_tuples_in audit.tables (sets_at history audit.tables) (common_tables query.tables audit.tables) ≡ tuples_at history (common query audit)
  tuples-are query audit =
      ap product (map_same (shared_rows_in audit.tables (sets_at history audit.tables)) (rows_at_history history) (common_tables query.tables audit.tables)
      (all_from (λ table. list_any (bytes_eq table) audit.tables ≡ true) (λ table. shared_rows_in audit.tables (sets_at history audit.tables) table ≡ rows_at_history history table)
      (rows_are audit.tables) (common_tables query.tables audit.tables) (common-in-audit query.tables audit.tables)))

-- ---- unmasked rows
abbrev shown_row : BornRow → ShownRow
shown_row kept = map Shown kept.row

flat_map_same : {X A : Type 0} (f g : X → List A) → ((x : X) → f x ≡ g x) → (xs : List X) → flat_map f xs ≡ flat_map g xs
flat_map_same f g same [] = refl
flat_map_same f g same (x ∷ xs) = λ i. same x i ++ flat_map_same f g same xs i

product_shown : (tables : List (List BornRow)) → product (map (map shown_row) tables) ≡ map all_shown (product tables)
product_shown [] = refl
product_shown (rows ∷ tables) =
    let after : ShownRow → List (List ShownRow) = λ row. map (λ others. row ∷ others) (product (map (map shown_row) tables)) in
    flat_map-map after shown_row rows
    ∙ flat_map_same (λ kept. after (shown_row kept)) (λ kept. map all_shown (map (λ others. kept ∷ others) (product tables)))
    (λ kept. ap (map (λ others. shown_row kept ∷ others)) (product_shown tables)
    ∙ map-map (λ others. shown_row kept ∷ others) all_shown (product tables)
    ∙ sym (map-map all_shown (λ others. kept ∷ others) (product tables))) rows
    ∙ sym (map-flat_map all_shown (λ kept. map (λ others. kept ∷ others) (product tables)) rows)

values_of : (row : Row) → map value_in (map Shown row) ≡ row
values_of [] = refl
values_of (value ∷ row) = ap (λ l. value ∷ l) (values_of row)

row_values : (rows : Combination) (place : ℕ) → map value_in (get_or (all_shown rows) place []) ≡ (get_or rows place blank).row
row_values [] place = refl
row_values (kept ∷ rows) zero = values_of kept.row
row_values (kept ∷ rows) (suc place) = row_values rows place

list_any-map : {A B : Type 0} (test : B → Bool) (f : A → B) (xs : List A) → list_any test (map f xs) ≡ list_any (λ x. test (f x)) xs
list_any-map test f [] = refl
list_any-map test f (x ∷ xs) = λ i. test (f x) || list_any-map test f xs i

module _ (history : History) where
  lists_shown : (tables : List Name) → map (unmasked_at history) tables ≡ map (map shown_row) (rows_of (sets_at history tables))
  lists_shown [] = refl
  lists_shown (table ∷ tables) = λ i. by (schema_at history table) i ∷ lists_shown tables i
    where
      by : (schema : Option Schema) → option_map_or (λ made. map shown_row (table_rows made history)) schema [] ≡ map shown_row (rows_by history schema).rows
      by None = refl
      by (Some schema) = refl

  pub unmasked-are : (audit : Audit) → unmasked_combinations history audit ≡ map all_shown (product (rows_of (sets_at history audit.tables)))
  unmasked-are audit = ap product (lists_shown audit.tables) ∙ product_shown (rows_of (sets_at history audit.tables))

  keys_are : (tables : List Name) (rows : Combination) (table : Name) → list_any (bytes_eq table) tables ≡ true → key_at_history history tables (all_shown rows) table ≡ shared_key_in tables (sets_at history tables) rows table
  keys_are tables rows table has = by (schema_at history table) ∙ sym (ap (λ (set : KeyedRows). key_in set.key (get_or rows (place_in tables table) blank)) (set_is history tables table has))
    where
      by : (schema : Option Schema) → option_map_or (λ made. key_of made.key (map value_in (get_or (all_shown rows) (place_in tables table) []))) schema [] ≡ key_in (rows_by history schema).key (get_or rows (place_in tables table) blank)
      by None = refl
      by (Some schema) = ap (key_of schema.key) (row_values rows (place_in tables table))

  tuple_is : (tables : List Name) (rows : Combination) (tuple : List SharedRow) → AllByRecursion (λ shared. list_any (bytes_eq shared.table) tables ≡ true) tuple
      → has_tuple_at history tables tuple (all_shown rows) ≡ has_tuple_in tables (sets_at history tables) tuple rows
  tuple_is tables rows [] all = refl
  tuple_is tables rows (shared ∷ tuple) all = λ i. same_cells (keys_are tables rows shared.table all.0 i) shared.key && tuple_is tables rows tuple all.1 i

  pub audit-has : (audit : Audit) (tuple : List SharedRow) → AllByRecursion (λ shared. list_any (bytes_eq shared.table) audit.tables ≡ true) tuple
      → has_true history audit.tables audit.cond tuple (unmasked_combinations history audit) ≡ audit_has audit (sets_at history audit.tables) tuple
  audit-has audit tuple all =
      ap (list_any (λ (rows : List ShownRow). has_tuple_at history audit.tables tuple rows && passes audit.cond rows)) (unmasked-are audit)
      ∙ list_any-map (λ (rows : List ShownRow). has_tuple_at history audit.tables tuple rows && passes audit.cond rows) all_shown (product (rows_of (sets_at history audit.tables)))
      ∙ (λ i. list_any (λ rows. tuple_is audit.tables rows tuple all i && passes audit.cond (all_shown rows)) (product (rows_of (sets_at history audit.tables))))
