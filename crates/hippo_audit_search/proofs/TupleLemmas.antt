-- Virtual tuples by the places of their rows, and the combinations that have them.
use Rattle.std.proofs.Common.{◌≡◌, ℕ, zero, suc, ◌<◌, true, ◌&&◌, List, [], ◌∷◌, ◌++◌, map, length, get_or, drop, ◌+◌, append_assoc, refl, sym, ap, subst, ◌∙◌, Option, Some, unwrap_or, nat_lt, ltb-true, arith}
use Rattle.std.specs.Prelude.{slice_get, bytes_eq}
use Rattle.std.specs.List.{All, AllByRecursion, flat_map, list_any, range_with_len}
use Rattle.std.specs.Cmp.{eq_by_cmp_equiv}
use Rattle.std.proofs.lemmas.Bool.{and_parts, false≢true}
use Rattle.std.proofs.lemmas.List.{drop_more}
use Rattle.std.proofs.lemmas.Bool.Decides.{nat_tests}
use Rattle.std.proofs.lemmas.List.Folds.{flat_map-map}
use Rattle.std.proofs.lemmas.Option.{slice_get-get_or, unwrap_or-slice_get}
use Rattle.hippo_values.specs.declared.names.Name.{Name}
use Rattle.hippo_values.specs.Order.{same_cells}
use Rattle.hippo_model.specs.declared.audit.SharedRow.{SharedRow}
use Rattle.hippo_model.specs.declared.born_row.BornRow.{BornRow}
use Rattle.hippo_model.specs.Terms.{Key, Place}
use Rattle.hippo_tables_keyed.specs.RowSets.{KeyedRows, IsAscending, key_in}
use Rattle.hippo_tables_keyed.proofs.Orders.{cells_total, same_exact}
use Rattle.hippo_join_lookups.specs.Places.{blank, row_at_place, chosen_rows, in_range, places_of}
use Rattle.hippo_join_stages.proofs.ProductLemmas.{each_row, map-map, map-flat_map}
use Rattle.hippo_join_lookups.proofs.SlotLemmas.{row-at, length-in_range}
use Rattle.hippo_join_lookups.proofs.PruneLemmas.{below-rows}
use Rattle.hippo_audit_search.specs.FirstPlaces.{AgreeAt}
use Rattle.hippo_audit_common.specs.Commons.{place_in}
use Rattle.hippo_audit_search.specs.Sharing.{rows_named, shared_rows_in, virtual_tuples_in, shared_key_in, has_tuple_in}
use Rattle.hippo_audit_search.specs.Tuples.{row_shared, tuple_at}
use Rattle.hippo_audit_search.proofs.CommonLemmas.{place-found}
use Rattle.hippo_audit_search.proofs.KeyLemmas.{one-place}

abbrev pub no_rows : KeyedRows
no_rows = record { key = []; rows = [] }

-- names that are among others
abbrev pub AllStandIn : List Name → List Name → Type 0
AllStandIn names common = AllByRecursion (λ table. list_any (bytes_eq table) names ≡ true) common

flat_map_same : {X A : Type 0} (f g : X → List A) → ((x : X) → f x ≡ g x) → (xs : List X) → flat_map f xs ≡ flat_map g xs
flat_map_same f g same [] = refl
flat_map_same f g same (x ∷ xs) = λ i. same x i ++ flat_map_same f g same xs i

module _ (names : List Name) (sets : List KeyedRows) where
  abbrev set_of : Name → KeyedRows
  set_of table = rows_named names sets table

  -- the rows of a table by their places
  rows_by_place : (table : Name) → get_or names (place_in names table) [] ≡ table → shared_rows_in names sets table ≡ map (row_shared names sets (place_in names table)) (range_with_len 0 (length (set_of table).rows))
  rows_by_place table found =
      let by_key : Name → BornRow → SharedRow = λ name kept. record { table = name; key = key_in (set_of table).key kept } in
      let range = range_with_len 0 (length (set_of table).rows) in
      ap (map (by_key table)) (sym (each_row (set_of table).rows)) ∙ map-map (by_key table) (row_at_place (set_of table).rows) range
      ∙ ap (λ (name : Name). map (λ place. by_key name (row_at_place (set_of table).rows place)) range) (sym found)

  -- virtual tuples are those of the places of the common tables' rows
  pub tuples-by-places : (common : List Name) → AllStandIn names common → virtual_tuples_in names sets common ≡ map (tuple_at names sets (map (place_in names) common)) (places_of (map (rows_named names sets) common))
  tuples-by-places [] all = refl
  tuples-by-places (table ∷ common) all =
      let range = range_with_len 0 (length (set_of table).rows) in
      let row : Place → SharedRow = row_shared names sets (place_in names table) in
      let later = tuple_at names sets (map (place_in names) common) in
      let whole = tuple_at names sets (map (place_in names) (table ∷ common)) in
      let places = places_of (map (rows_named names sets) common) in
      let after : SharedRow → List (List SharedRow) = λ shared. map (λ others. shared ∷ others) (virtual_tuples_in names sets common) in
      ap (flat_map after) (rows_by_place table (place-found names table all.0).1) ∙ flat_map-map after row range
      ∙ flat_map_same (λ place. after (row place)) (λ place. map whole (map (λ others. place ∷ others) places))
      (λ place. ap (map (λ others. row place ∷ others)) (tuples-by-places common all.1)
      ∙ map-map (λ others. row place ∷ others) later places
      ∙ sym (map-map whole (λ others. place ∷ others) places)) range
      ∙ sym (map-flat_map whole (λ place. map (λ others. place ∷ others) places) range)

pub set_at : (tables : List Name) (sets : List KeyedRows) (table : Name) → length sets ≡ length tables → list_any (bytes_eq table) tables ≡ true → slice_get sets (place_in tables table) ≡ Some (rows_named tables sets table)
set_at tables sets table long has = slice_get-get_or sets (place_in tables table) no_rows (subst (λ (n : ℕ). place_in tables table < n) (sym long) (place-found tables table has).0)

key_is : (tables : List Name) (sets : List KeyedRows) (table : Name) (places : List Place) (place : Place) → length sets ≡ length tables → list_any (bytes_eq table) tables ≡ true → slice_get places (place_in tables table) ≡ Some place
    → shared_key_in tables sets (chosen_rows sets places) table ≡ key_in (rows_named tables sets table).key (row_at_place (rows_named tables sets table).rows place)
key_is tables sets table places place long has here =
    ap (key_in (rows_named tables sets table).key)
    (sym (unwrap_or-slice_get (chosen_rows sets places) (place_in tables table) blank)
    ∙ ap (λ (o : Option BornRow). unwrap_or o blank) (row-at sets places (place_in tables table) (rows_named tables sets table) place (set_at tables sets table long has) here))

module _ (tables : List Name) (sets : List KeyedRows) (names : List Name) (others : List KeyedRows) (long : length sets ≡ length tables) (long_others : length others ≡ length names) where
  abbrev AreSame : List Name → Type 0
  AreSame common = AllByRecursion (λ table. rows_named tables sets table ≡ rows_named names others table) common

  -- a combination with the keys of given places has these places
  pub agrees-from-tuple : (common : List Name) → AllStandIn tables common → AllStandIn names common → AreSame common → All (λ set. IsAscending (map (key_in set.key) set.rows)) others
      → (given places : List Place) → in_range sets places ≡ true → in_range (map (rows_named names others) common) given ≡ true
      → has_tuple_in tables sets (tuple_at names others (map (place_in names) common) given) (chosen_rows sets places) ≡ true → AgreeAt (map (place_in tables) common) given places
  agrees-from-tuple [] here there same ascend [] places within given_within has = tt
  agrees-from-tuple [] here there same ascend (k ∷ given) places within given_within has = absurd (false≢true given_within)
  agrees-from-tuple (table ∷ common) here there same ascend [] places within given_within has = absurd (false≢true given_within)
  agrees-from-tuple (table ∷ common) here there same ascend (k ∷ given) places within given_within has =
      let own = rows_named tables sets table in
      let other = rows_named names others table in
      let row = row_shared names others (place_in names table) k in
      let rest = tuple_at names others (map (place_in names) common) given in
      let name = place-found names table there.0 in
      let both = and_parts (same_cells (shared_key_in tables sets (chosen_rows sets places) row.table) row.key) (has_tuple_in tables sets rest (chosen_rows sets places)) has in
      let place = get_or places (place_in tables table) 0 in
      let placed : place_in tables table < length places = subst (λ (n : ℕ). place_in tables table < n) (sym (length-in_range sets places within ∙ long)) (place-found tables table here.0).0 in
      let at : slice_get places (place_in tables table) ≡ Some place = slice_get-get_or places (place_in tables table) 0 placed in
      let keys : key_in own.key (row_at_place own.rows place) ≡ row.key =
      sym (key_is tables sets table places place long here.0 at) ∙ ap (shared_key_in tables sets (chosen_rows sets places)) (sym name.1) ∙ same_exact (shared_key_in tables sets (chosen_rows sets places) row.table) row.key both.0 in
      let parts = and_parts (nat_lt k (length other.rows)) (in_range (map (rows_named names others) common) given) given_within in
      let below : place < length other.rows = subst (λ (s : KeyedRows). place < length s.rows) same.0 (below-rows sets places (place_in tables table) own place within (set_at tables sets table long here.0) at) in
      let one = one-place other.key other.rows place k
      (ascend (place_in names table) no_rows (subst (λ (n : ℕ). place_in names table < n) (sym long_others) name.0)) below (ltb-true _ _ parts.0)
      (ap (λ (s : KeyedRows). key_in s.key (row_at_place s.rows place)) (sym same.0) ∙ keys) in
      (at ∙ ap Some one, agrees-from-tuple common here.1 there.1 same.1 ascend given places within parts.1 both.1)

  -- a combination with given places has their keys
  pub tuple-from-agrees : (common : List Name) → AllStandIn tables common → AllStandIn names common → AreSame common
      → (given places : List Place) → AgreeAt (map (place_in tables) common) given places → has_tuple_in tables sets (tuple_at names others (map (place_in names) common) given) (chosen_rows sets places) ≡ true
  tuple-from-agrees [] here there same [] places agree = refl
  tuple-from-agrees [] here there same (k ∷ given) places agree = absurd agree
  tuple-from-agrees (table ∷ common) here there same [] places agree = absurd agree
  tuple-from-agrees (table ∷ common) here there same (k ∷ given) places agree =
      let row = row_shared names others (place_in names table) k in
      let keys : shared_key_in tables sets (chosen_rows sets places) row.table ≡ row.key =
      ap (shared_key_in tables sets (chosen_rows sets places)) (place-found names table there.0).1 ∙ key_is tables sets table places k long here.0 agree.0
      ∙ ap (λ (s : KeyedRows). key_in s.key (row_at_place s.rows k)) same.0 in
      let equal : same_cells (shared_key_in tables sets (chosen_rows sets places) row.table) row.key ≡ true =
      ap (λ (key : Key). same_cells key row.key) keys ∙ (eq_by_cmp_equiv cells_total).refl row.key in
      let later = tuple-from-agrees common here.1 there.1 same.1 given places agree.1 in
      λ i. equal i && later i

-- given places that agree with a combination's are in range
pub agrees-in-range : (names : List Name) (sets : List KeyedRows) → length sets ≡ length names → (common : List Name) → AllStandIn names common → (given places : List Place) → in_range sets places ≡ true
    → AgreeAt (map (place_in names) common) given places → in_range (map (rows_named names sets) common) given ≡ true
agrees-in-range names sets long [] all [] places within agree = refl
agrees-in-range names sets long [] all (k ∷ given) places within agree = absurd agree
agrees-in-range names sets long (table ∷ common) all [] places within agree = absurd agree
agrees-in-range names sets long (table ∷ common) all (k ∷ given) places within agree =
    let set = rows_named names sets table in
    let below = below-rows sets places (place_in names table) set k within (set_at names sets table long all.0) agree.0 in
    let lower : nat_lt k (length set.rows) ≡ true = grind (arith, nat_tests) in
    let later = agrees-in-range names sets long common all.1 given places within agree.1 in
    λ i. lower i && later i

-- one more row of a tuple
pub tuple-more : (names : List Name) (sets : List KeyedRows) (tables places : List Place) (i : ℕ) (tuple more whole : List SharedRow) (row : SharedRow) → i < length tables → i < length places
    → row ≡ row_shared names sets (get_or tables i 0) (get_or places i 0) → more ≡ tuple ++ row ∷ [] → tuple ++ tuple_at names sets (drop i tables) (drop i places) ≡ whole
    → more ++ tuple_at names sets (drop (i + 1) tables) (drop (i + 1) places) ≡ whole
tuple-more names sets tables places i tuple more whole row in_tables in_places is pushed so_far =
    let rest = tuple_at names sets (drop (i + 1) tables) (drop (i + 1) places) in
    let here : tuple_at names sets (drop i tables) (drop i places) ≡ row ∷ rest =
    (λ j. tuple_at names sets (drop_more tables i 0 in_tables j) (drop_more places i 0 in_places j)) ∙ ap (λ (r : SharedRow). r ∷ rest) (sym is) in
    ap (λ l. l ++ rest) pushed ∙ append_assoc tuple (row ∷ []) rest ∙ sym (ap (λ l. tuple ++ l) here) ∙ so_far

-- the row that a table's name, its set and a place give
pub row-made : (names : List Name) (sets : List KeyedRows) (table place : Place) (name : Name) (set : KeyedRows) (key : Key) → slice_get sets table ≡ Some set → name ≡ get_or names table [] → key ≡ key_in set.key (row_at_place set.rows place)
    → record { table = name; key = key } ≡ row_shared names sets table place
row-made names sets table place name set key at is_name is_key =
    let same : set ≡ get_or sets table no_rows = ap (λ (o : Option KeyedRows). unwrap_or o no_rows) (sym at) ∙ unwrap_or-slice_get sets table no_rows in
    let keyed : key ≡ key_in (get_or sets table no_rows).key (row_at_place (get_or sets table no_rows).rows place) = is_key ∙ ap (λ (s : KeyedRows). key_in s.key (row_at_place s.rows place)) same in
    λ i. record { table = is_name i; key = keyed i }

pub name-read : (names : List Name) (table : Place) (name : Name) → table < length names → name ≡ get_or names table name → name ≡ get_or names table []
name-read [] table name within is = absurd (omega arith)
name-read (first ∷ names) zero name within is = is
name-read (first ∷ names) (suc table) name within is = name-read names table name (omega arith) is
