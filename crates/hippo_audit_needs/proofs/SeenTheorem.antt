-- Whether the expression for an audited column is shown, in a combination that has a virtual tuple.
use Rattle.std.proofs.Common.{◌≡◌, ℕ, zero, suc, ◌<◌, Bool, true, false, ◌||◌, cond, List, [], ◌∷◌, ◌++◌, map, length, get_or, refl, sym, ap, subst, ◌∙◌, Option, Some, arith}
use Rattle.std.specs.Prelude.{find, slice_get, bytes_eq, option_and_then, IfSome}
use Rattle.std.specs.List.{AllByRecursion, flat_map, list_all, list_any}
use Rattle.std.specs.Option.{option_map_or}
use Rattle.std.specs.Ordering.{is_eq}
use Rattle.std.specs.Cmp.{eq_by_cmp_equiv}
use Rattle.std.proofs.lemmas.Bool.{and_parts, false≢true, or_right}
use Rattle.std.proofs.lemmas.Option.{slice_get-get_or}
use Rattle.hippo_values.specs.declared.names.Name.{Name}
use Rattle.hippo_values.specs.declared.values.Value.{Value}
use Rattle.hippo_values.specs.Order.{same_cells}
use Rattle.hippo_model.specs.declared.audit.SharedRow.{SharedRow}
use Rattle.hippo_model.specs.declared.born_row.BornRow.{BornRow}
use Rattle.hippo_model.specs.declared.policy.Verdict.{Verdict}
use Rattle.hippo_model.specs.declared.policy.Verdict.TheVariants.{Shown, Denied}
use Rattle.hippo_model.specs.declared.query.Ref.{Ref}
use Rattle.hippo_model.specs.declared.schema.Schema.{Schema}
use Rattle.hippo_model.specs.Terms.{History, Combination, Key, Place}
use Rattle.hippo_model.specs.Histories.{schema_at}
use Rattle.hippo_model.specs.Rows.{born_row_at}
use Rattle.hippo_tables_keyed.specs.RowSets.{KeyedRows, IsAscending, kept_at, key_in}
use Rattle.hippo_model.specs.Rules.{choice_at}
use Rattle.hippo_model.specs.Verdicts.{Context, verdict}
use Rattle.hippo_model.specs.Views.{is_shown, cell_by}
use Rattle.hippo_model.specs.Answers.{product}
use Rattle.hippo_model.specs.Audits.{is_seen, row_named}
use Rattle.hippo_model.specs.Masking.{masked_cell, is_shown_cell}
use Rattle.hippo_tables_keyed.proofs.Orders.{cells_total, same_exact}
use Rattle.hippo_tables_keyed.proofs.RowsAfter.{IsAscending-table_rows, row_with-table_rows}
use Rattle.hippo_rewrite.specs.Rewriting.{masked_column}
use Rattle.hippo_rewrite.specs.RewritingLaws.{rules_at, ColumnsShowVerdicts}
use Rattle.hippo_rewrite.proofs.FittingRows.{schema_named}
use Rattle.hippo_join_lookups.specs.Places.{blank, row_at_place, chosen_rows, in_range}
use Rattle.hippo_join_lookups.proofs.SlotLemmas.{row-at, length-in_range}
use Rattle.hippo_join_lookups.proofs.PruneLemmas.{below-rows}
use Rattle.hippo_audit_common.specs.Commons.{common_tables, place_in}
use Rattle.hippo_audit_search.specs.Sharing.{shared_key_in, has_tuple_in}
use Rattle.hippo_audit_search.specs.HistoryLaws.{sets_at}
use Rattle.hippo_audit_search.proofs.CommonLemmas.{same_name, same_as_itself, place-found}
use Rattle.hippo_audit_search.proofs.KeyLemmas.{below_at}
use Rattle.hippo_audit_search.proofs.HistoryLemmas.{rows_by, set_is}
use Rattle.hippo_audit_search.proofs.TupleLemmas.{no_rows}
use Rattle.hippo_audit_needs.proofs.QueryTheorem.{schema_found}

-- the name at a place is among the names
pub stands-at : (names : List Name) (place : ℕ) → place < length names → list_any (bytes_eq (get_or names place [])) names ≡ true
stands-at [] place within = absurd (omega arith)
stands-at (name ∷ names) zero within = ap (λ b. b || list_any (bytes_eq name) names) (same_as_itself name)
stands-at (name ∷ names) (suc place) within = or_right (bytes_eq (get_or names place []) name) (list_any (bytes_eq (get_or names place [])) names) (stands-at names place (omega arith))

-- a table in both lists is common
pub in-common : (query names : List Name) (table : Name) → list_any (bytes_eq table) query ≡ true → list_any (bytes_eq table) names ≡ true → list_any (bytes_eq table) (common_tables query names) ≡ true
in-common query [] table here there = absurd (false≢true there)
in-common query (name ∷ names) table here there = by (bytes_eq table name) refl (list_any (bytes_eq name) query) refl there (in-common query names table here)
  where
    by : (same : Bool) → bytes_eq table name ≡ same → (kept : Bool) → list_any (bytes_eq name) query ≡ kept → (same || list_any (bytes_eq table) names) ≡ true → (list_any (bytes_eq table) names ≡ true → list_any (bytes_eq table) (common_tables query names) ≡ true)
        → list_any (bytes_eq table) (cond kept (name ∷ common_tables query names) (common_tables query names)) ≡ true
    by true e true k there later = ap (λ b. b || list_any (bytes_eq table) (common_tables query names)) e
    by true e false k there later = absurd (false≢true (sym k ∙ ap (λ (n : Name). list_any (bytes_eq n) query) (sym (same_name table name e)) ∙ here))
    by false e true k there later = or_right (bytes_eq table name) (list_any (bytes_eq table) (common_tables query names)) (later there)
    by false e false k there later = later there

-- each of a product's combinations has a row of each table
module _ (f : Name → List SharedRow) (named : (table : Name) → AllByRecursion (λ shared. bytes_eq shared.table table ≡ true) (f table)) (table : Name) where
  abbrev HasTable : List SharedRow → Type 0
  HasTable tuple = list_any (λ shared. bytes_eq shared.table table) tuple ≡ true

  joined : (some others : List (List SharedRow)) → AllByRecursion HasTable some → AllByRecursion HasTable others → AllByRecursion HasTable (some ++ others)
  joined [] others a b = b
  joined (tuple ∷ some) others a b = (a.0, joined some others a.1 b)

  first_has : (shared : SharedRow) (some : List (List SharedRow)) → bytes_eq shared.table table ≡ true → AllByRecursion HasTable (map (λ others. shared ∷ others) some)
  first_has shared [] same = tt
  first_has shared (tuple ∷ some) same = (ap (λ b. b || list_any (λ s. bytes_eq s.table table) tuple) same, first_has shared some same)

  others_have : (shared : SharedRow) (some : List (List SharedRow)) → AllByRecursion HasTable some → AllByRecursion HasTable (map (λ others. shared ∷ others) some)
  others_have shared [] all = tt
  others_have shared (tuple ∷ some) all = (or_right (bytes_eq shared.table table) (list_any (λ s. bytes_eq s.table table) tuple) all.0, others_have shared some all.1)

  firsts_have : (firsts : List SharedRow) (some : List (List SharedRow)) → AllByRecursion (λ shared. bytes_eq shared.table table ≡ true) firsts → AllByRecursion HasTable (flat_map (λ x. map (λ others. x ∷ others) some) firsts)
  firsts_have [] some all = tt
  firsts_have (shared ∷ firsts) some all = joined (map (λ others. shared ∷ others) some) (flat_map (λ x. map (λ others. x ∷ others) some) firsts) (first_has shared some all.0) (firsts_have firsts some all.1)

  all_have : (firsts : List SharedRow) (some : List (List SharedRow)) → AllByRecursion HasTable some → AllByRecursion HasTable (flat_map (λ x. map (λ others. x ∷ others) some) firsts)
  all_have [] some all = tt
  all_have (shared ∷ firsts) some all = joined (map (λ others. shared ∷ others) some) (flat_map (λ x. map (λ others. x ∷ others) some) firsts) (others_have shared some all) (all_have firsts some all)

  pub product-has : (tables : List Name) → list_any (bytes_eq table) tables ≡ true → AllByRecursion HasTable (product (map f tables))
  product-has [] stands = absurd (false≢true stands)
  product-has (first ∷ tables) stands = by (bytes_eq table first) refl stands (product-has tables)
    where
      by : (same : Bool) → bytes_eq table first ≡ same → (same || list_any (bytes_eq table) tables) ≡ true → (list_any (bytes_eq table) tables ≡ true → AllByRecursion HasTable (product (map f tables))) → AllByRecursion HasTable (product (map f (first ∷ tables)))
      by true e stands later = firsts_have (f first) (product (map f tables)) (subst (λ (n : Name). AllByRecursion (λ shared. bytes_eq shared.table n ≡ true) (f first)) (sym (same_name table first e)) (named first))
      by false e stands later = all_have (f first) (product (map f tables)) (later stands)

-- the row of a tuple in a table
found_named : (tuple : List SharedRow) (table : Name) → list_any (λ shared. bytes_eq shared.table table) tuple ≡ true
    → (shared : SharedRow) × (find (λ s. bytes_eq s.table table) tuple ≡ Some shared) × (bytes_eq shared.table table ≡ true) × ((test : SharedRow → Bool) → list_all test tuple ≡ true → test shared ≡ true)
found_named [] table has = absurd (false≢true has)
found_named (first ∷ tuple) table has = by (bytes_eq first.table table) refl has (found_named tuple table)
  where
    by : (same : Bool) → bytes_eq first.table table ≡ same → (same || list_any (λ shared. bytes_eq shared.table table) tuple) ≡ true
        → (list_any (λ shared. bytes_eq shared.table table) tuple ≡ true → (shared : SharedRow) × (find (λ s. bytes_eq s.table table) tuple ≡ Some shared) × (bytes_eq shared.table table ≡ true) × ((test : SharedRow → Bool) → list_all test tuple ≡ true → test shared ≡ true))
        → (shared : SharedRow) × (cond same (Some first) (find (λ s. bytes_eq s.table table) tuple) ≡ Some shared) × (bytes_eq shared.table table ≡ true) × ((test : SharedRow → Bool) → list_all test (first ∷ tuple) ≡ true → test shared ≡ true)
    by true e has later = (first, refl, e, λ test all. (and_parts (test first) (list_all test tuple) all).0)
    by false e has later = let found = later has in (found.0, found.1, found.2, λ test all. found.3 test (and_parts (test first) (list_all test tuple) all).1)

-- the row that has a row's key is that row
find_key : (key : List Place) (rows : List BornRow) (place : Place) → IsAscending (map (key_in key) rows) → place < length rows → find (λ kept. same_cells (key_in key kept) (key_in key (row_at_place rows place))) rows ≡ Some (row_at_place rows place)
find_key key [] place ascends within = absurd (omega arith)
find_key key (row ∷ rows) zero ascends within = ap (λ b. cond b (Some row) (find (λ kept. same_cells (key_in key kept) (key_in key row)) rows)) ((eq_by_cmp_equiv cells_total).refl (key_in key row))
find_key key (row ∷ rows) (suc place) ascends within =
    ap (λ b. cond b (Some row) (find (λ kept. same_cells (key_in key kept) (key_in key (row_at_place rows place))) rows)) (ap is_eq (below_at key (key_in key row) rows place ascends.0 (omega arith)))
    ∙ find_key key rows place ascends.1 (omega arith)

shown_by : (verdict : Verdict) (value : Value) → is_shown_cell (cell_by verdict value) ≡ is_shown verdict
shown_by Shown value = refl
shown_by (Denied rule) value = refl

-- the expression for an audited column is shown exactly when the tuple's cell is seen
pub seen-column : ColumnsShowVerdicts → (history : History) (context : Context) (tables audits : List Name) (schemas : List Schema) (tuple : List SharedRow) (places : List Place) (column : Ref)
    → map (schema_at history) tables ≡ map Some schemas → in_range (sets_at history tables) places ≡ true → has_tuple_in tables (sets_at history tables) tuple (chosen_rows (sets_at history tables) places) ≡ true
    → list_any (λ shared. bytes_eq shared.table (get_or audits column.table [])) tuple ≡ true → list_any (bytes_eq (get_or audits column.table [])) tables ≡ true
    → IfSome (schema_at history (get_or audits column.table [])) (λ schema. column.column < length schema.columns)
    → is_shown_cell (masked_cell (choice_at history) (chosen_rows (sets_at history tables) places) (masked_column (rules_at history context schemas) (record { table = place_in tables (get_or audits column.table []); column = column.column })))
    ≡ is_seen history context audits tuple column
seen-column shows history context tables audits schemas tuple places column are within has member stands in_schema =
    let table = get_or audits column.table [] in
    let sets = sets_at history tables in
    let place = place_in tables table in
    let found = place-found tables table stands in
    let schema = schema_found history tables schemas place are found.0 in
    let made : schema_at history table ≡ Some schema.0 = ap (schema_at history) (sym found.1) ∙ schema.2 in
    let set : KeyedRows = kept_at schema.0 history in
    let set_found : get_or sets place no_rows ≡ set = set_is history tables table stands ∙ ap (rows_by history) made in
    let long : length sets ≡ length tables = long_map tables in
    let at_set : slice_get sets place ≡ Some set = slice_get-get_or sets place no_rows (subst (λ (n : ℕ). place < n) (sym long) found.0) ∙ ap Some set_found in
    let p = get_or places place 0 in
    let at_place : slice_get places place ≡ Some p = slice_get-get_or places place 0 (subst (λ (n : ℕ). place < n) (sym (length-in_range sets places within ∙ long)) found.0) in
    let below : p < length set.rows = below-rows sets places place set p within at_set at_place in
    let kept = row_at_place set.rows p in
    let at_row : slice_get (chosen_rows sets places) place ≡ Some kept = row-at sets places place set p at_set at_place in
    let row = found_named tuple table member in
    let same_table : row.0.table ≡ table = same_name row.0.table table row.2 in
    let keys : shared_key_in tables sets (chosen_rows sets places) table ≡ row.0.key =
    ap (shared_key_in tables sets (chosen_rows sets places)) (sym same_table) ∙ same_exact (shared_key_in tables sets (chosen_rows sets places) row.0.table) row.0.key (row.3 (λ shared. same_cells (shared_key_in tables sets (chosen_rows sets places) shared.table) shared.key) has) in
    let own : shared_key_in tables sets (chosen_rows sets places) table ≡ key_in schema.0.key kept =
    (λ i. key_in (set_found i).key (get_or_of (chosen_rows sets places) place kept at_row i)) in
    let born : born_row_at schema.0 history row.0.key ≡ Some kept =
    sym (row_with-table_rows schema.0 history row.0.key)
    ∙ ap (λ (key : Key). find (λ k. same_cells (key_in schema.0.key k) key) set.rows) (sym keys ∙ own)
    ∙ find_key schema.0.key set.rows p (IsAscending-table_rows schema.0 history) below in
    let named : find (λ (shared : SharedRow). bytes_eq shared.table schema.0.name) tuple ≡ Some row.0 =
    ap (λ (n : Name). find (λ (shared : SharedRow). bytes_eq shared.table n) tuple) (schema_named history table schema.0 made) ∙ row.1 in
    let sees : Schema → BornRow → Bool = λ s k. is_shown (verdict history context s k column.column) in
    let seen : is_seen history context audits tuple column ≡ is_shown (verdict history context schema.0 kept column.column) =
    ap (λ (o : Option Schema). option_map_or (λ s. option_map_or (sees s) (row_named history tuple s) false) o false) made
    ∙ ap (λ (o : Option SharedRow). option_map_or (sees schema.0) (option_and_then (λ shared. born_row_at schema.0 history shared.key) o) false) named
    ∙ ap (λ (o : Option BornRow). option_map_or (sees schema.0) o false) born in
    let wide : column.column < length schema.0.columns = of_some made in_schema in
    ap is_shown_cell (shows history context schemas (chosen_rows sets places) (record { table = place; column = column.column }) schema.0 kept schema.1 at_row wide)
    ∙ shown_by (verdict history context schema.0 kept column.column) _ ∙ sym seen
  where
    long_map : (names : List Name) → length (sets_at history names) ≡ length names
    long_map [] = refl
    long_map (name ∷ names) = ap suc (long_map names)

    get_or_of : (rows : Combination) (place : Place) (kept : BornRow) → slice_get rows place ≡ Some kept → get_or rows place blank ≡ kept
    get_or_of [] place kept found = absurd cc
    get_or_of (row ∷ rows) zero kept found = cc
    get_or_of (row ∷ rows) (suc place) kept found = get_or_of rows place kept found

    of_some : {schema : Schema} {o : Option Schema} → o ≡ Some schema → IfSome o (λ s. column.column < length s.columns) → column.column < length schema.columns
    of_some {schema} {o} is known = let here : IfSome (Some schema) (λ s. column.column < length s.columns) = subst (λ (x : Option Schema). IfSome x (λ s. column.column < length s.columns)) is known in here
