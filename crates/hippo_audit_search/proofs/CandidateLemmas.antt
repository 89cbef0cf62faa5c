-- The marks of a product's combinations, and the first of the tuples that are alone.
use Rattle.std.proofs.Common.{◌≡◌, ℕ, suc, ◌<◌, Bool, true, false, not, ◌&&◌, ◌||◌, List, [], ◌∷◌, map, length, get_or, refl, sym, ap, subst, ◌∙◌, Some, arith}
use Rattle.std.specs.Prelude.{slice_get, filter, bytes_eq}
use Rattle.std.specs.List.{All, AllByRecursion, list_any, list_all}
use Rattle.std.specs.Option.{option_map_or}
use Rattle.std.specs.Ordering.{is_eq, nat_cmp}
use Rattle.std.specs.Cmp.{eq_by_cmp_equiv, both_ways}
use Rattle.std.specs.Cmp.Lexicographic.{slice_cmp}
use Rattle.std.proofs.lemmas.Bool.{and_parts, false≢true}
use Rattle.std.proofs.lemmas.Cmp.{nat_list_cmp_total}
use Rattle.std.proofs.lemmas.Option.{slice_get-get_or}
use Rattle.std.proofs.Math.Bool.{or-true}
use Rattle.hippo_values.specs.declared.names.Name.{Name}
use Rattle.hippo_model.specs.declared.audit.SharedRow.{SharedRow}
use Rattle.hippo_model.specs.Terms.{Place, Combination}
use Rattle.hippo_tables_keyed.specs.RowSets.{KeyedRows, IsAscending, key_in}
use Rattle.hippo_model.specs.Answers.{product}
use Rattle.hippo_eval.specs.Walks.{rows_of}
use Rattle.hippo_join_stages.specs.Finding.{has_places}
use Rattle.hippo_join_lookups.specs.Places.{chosen_rows, in_range, places_of}
use Rattle.hippo_join_lookups.proofs.PruneLemmas.{below-rows}
use Rattle.hippo_join_stages.proofs.ProductLemmas.{product-rows, has-places_of}
use Rattle.hippo_join_lookups.proofs.SlotLemmas.{row-at, length-in_range}
use Rattle.hippo_audit_common.specs.Commons.{common_tables, place_in}
use Rattle.hippo_audit_search.specs.Sharing.{rows_named, HaveSameRows, has_tuple_in}
use Rattle.hippo_audit_search.specs.Tuples.{tuple_at}
use Rattle.hippo_audit_search.specs.Marks.{place_like, row_place, row_places, same_places, mark_of, is_one}
use Rattle.hippo_audit_search.proofs.CommonLemmas.{place-found, common-in-query, common-in-audit}
use Rattle.hippo_audit_search.proofs.MarkLemmas.{same-exact, same-from, place_like-own, is_one-passing}
use Rattle.hippo_audit_search.specs.FirstPlaces.{AgreeAt}
use Rattle.hippo_audit_search.proofs.TupleLemmas.{AllStandIn, no_rows, set_at, agrees-from-tuple, tuple-from-agrees, agrees-in-range}

from_all : {X : Type 0} (P : X → Type 0) (xs : List X) → All P xs → AllByRecursion P xs
from_all P [] all = tt
from_all P (x ∷ xs) all = (all 0 x (omega arith), from_all P xs (λ k d within. all (suc k) d (omega arith)))

-- what is true of the combinations at a product's places is true of each combination of the product
each_chosen : (sets : List KeyedRows) (P : Combination → Type 0) → ((places : List Place) → in_range sets places ≡ true → P (chosen_rows sets places)) → AllByRecursion P (product (rows_of sets))
each_chosen sets P holds = subst (λ (all : List Combination). AllByRecursion P all) (sym (product-rows sets)) (each (places_of sets) (λ places has. holds places (sym (has-places_of sets places) ∙ has)))
  where
    each : (some : List (List Place)) → ((places : List Place) → has_places places some ≡ true → P (chosen_rows sets places)) → AllByRecursion P (map (chosen_rows sets) some)
    each [] holds = tt
    each (first ∷ some) holds = (
      holds first (ap (λ b. b || has_places first some) ((eq_by_cmp_equiv nat_list_cmp_total).refl first)),
      each some (λ places has. holds places (ap (λ b. is_eq (slice_cmp nat_cmp places first) || b) has ∙ or-true (is_eq (slice_cmp nat_cmp places first)))),
    )

module _ (query audit : List Name) (query_sets audit_sets : List KeyedRows) (long_query : length query_sets ≡ length query) (long_audit : length audit_sets ≡ length audit)
    (same : HaveSameRows query query_sets audit audit_sets) (ascend : All (λ set. IsAscending (map (key_in set.key) set.rows)) audit_sets) where
  abbrev pub common : List Name
  common = common_tables query audit

  abbrev pub query_places : List Place
  query_places = map (place_in query) common

  abbrev pub common_sets : List KeyedRows
  common_sets = map (rows_named audit audit_sets) common

  abbrev pub shared_at : List Place → List SharedRow
  shared_at given = tuple_at audit audit_sets (map (place_in audit) common) given

  abbrev AreSame : List Name → Type 0
  AreSame tables = AllByRecursion (λ table. rows_named query query_sets table ≡ rows_named audit audit_sets table) tables

  -- the place of a common table's row
  place-is : (table : Name) → list_any (bytes_eq table) query ≡ true → list_any (bytes_eq table) audit ≡ true → rows_named query query_sets table ≡ rows_named audit audit_sets table
      → (places : List Place) → in_range query_sets places ≡ true → slice_get places (place_in query table) ≡ Some (row_place query_sets (chosen_rows query_sets places) (place_in query table))
  place-is table here there same_here places within =
      let set = rows_named query query_sets table in
      let place = get_or places (place_in query table) 0 in
      let at_set : slice_get query_sets (place_in query table) ≡ Some set = set_at query query_sets table long_query here in
      let placed : place_in query table < length places = subst (λ (n : ℕ). place_in query table < n) (sym (length-in_range query_sets places within ∙ long_query)) (place-found query table here).0 in
      let at : slice_get places (place_in query table) ≡ Some place = slice_get-get_or places (place_in query table) 0 placed in
      let ascends : IsAscending (map (key_in set.key) set.rows) =
      subst (λ (s : KeyedRows). IsAscending (map (key_in s.key) s.rows)) (sym same_here)
      (ascend (place_in audit table) no_rows (subst (λ (n : ℕ). place_in audit table < n) (sym long_audit) (place-found audit table there).0)) in
      at ∙ ap Some (sym ((λ i. option_map_or (λ (s : KeyedRows). option_map_or (place_like s) (row-at query_sets places (place_in query table) set place at_set at i) 0) (at_set i) 0)
      ∙ place_like-own set place ascends (below-rows query_sets places (place_in query table) set place within at_set at)))

  agree-own : (tables : List Name) → AllStandIn query tables → AllStandIn audit tables → AreSame tables → (places : List Place) → in_range query_sets places ≡ true
      → AgreeAt (map (place_in query) tables) (row_places query_sets (map (place_in query) tables) (chosen_rows query_sets places)) places
  agree-own [] here there are places within = tt
  agree-own (table ∷ tables) here there are places within = (place-is table here.0 there.0 are.0 places within, agree-own tables here.1 there.1 are.1 places within)

  one-tuple : (tables given others places : List Place) → AgreeAt tables given places → AgreeAt tables others places → given ≡ others
  one-tuple [] [] [] places a b = refl
  one-tuple [] [] (other ∷ others) places a b = absurd b
  one-tuple [] (place ∷ given) others places a b = absurd a
  one-tuple (table ∷ tables) [] others places a b = absurd a
  one-tuple (table ∷ tables) (place ∷ given) [] places a b = absurd b
  one-tuple (table ∷ tables) (place ∷ given) (other ∷ others) places a b =
      λ i. some_is (sym a.0 ∙ b.0) i ∷ one-tuple tables given others places a.1 b.1 i
    where
      some_is : {A : Type 0} {x y : A} → Some x ≡ Some y → x ≡ y
      some_is e = cc

  in_query : AllStandIn query common
  in_query = common-in-query query audit

  in_audit : AllStandIn audit common
  in_audit = common-in-audit query audit

  same_rows : AreSame common
  same_rows = from_all (λ table. rows_named query query_sets table ≡ rows_named audit audit_sets table) common same

  -- the places of a combination's rows of the common tables
  abbrev pub places_at : Combination → List Place
  places_at rows = row_places query_sets query_places rows

  own : (places : List Place) → in_range query_sets places ≡ true → AgreeAt query_places (places_at (chosen_rows query_sets places)) places
  own places within = agree-own common in_query in_audit same_rows places within

  sets_same : (tables : List Name) → AreSame tables → map (rows_named query query_sets) tables ≡ map (rows_named audit audit_sets) tables
  sets_same [] are = refl
  sets_same (table ∷ tables) are = λ i. are.0 i ∷ sets_same tables are.1 i

  own-within : (places : List Place) → in_range query_sets places ≡ true → in_range common_sets (places_at (chosen_rows query_sets places)) ≡ true
  own-within places within =
      subst (λ (sets : List KeyedRows). in_range sets (places_at (chosen_rows query_sets places)) ≡ true) (sets_same common same_rows)
      (agrees-in-range query query_sets long_query common in_query (places_at (chosen_rows query_sets places)) places within (own places within))

  has-own : (places : List Place) → in_range query_sets places ≡ true → (given : List Place) → in_range common_sets given ≡ true
      → has_tuple_in query query_sets (shared_at given) (chosen_rows query_sets places) ≡ same_places (places_at (chosen_rows query_sets places)) given
  has-own places within given given_within =
      both_ways (has_tuple_in query query_sets (shared_at given) (chosen_rows query_sets places)) (same_places (places_at (chosen_rows query_sets places)) given)
      (λ has. same-from (places_at (chosen_rows query_sets places)) given
      (one-tuple query_places (places_at (chosen_rows query_sets places)) given places (own places within)
      (agrees-from-tuple query query_sets audit audit_sets long_query long_audit common in_query in_audit same_rows ascend given places within given_within has)))
      (λ equal. tuple-from-agrees query query_sets audit audit_sets long_query long_audit common in_query in_audit same_rows given places
      (subst (λ (l : List Place). AgreeAt query_places l places) (same-exact (places_at (chosen_rows query_sets places)) given equal) (own places within)))

  -- what is known of each combination of the product
  abbrev pub Told : Combination → Type 0
  Told rows = (in_range common_sets (places_at rows) ≡ true)
      × ((given : List Place) → in_range common_sets given ≡ true → has_tuple_in query query_sets (shared_at given) rows ≡ same_places (places_at rows) given)

  pub all_told : AllByRecursion Told (product (rows_of query_sets))
  all_told = each_chosen query_sets Told (λ places within. (own-within places within, has-own places within))

  tests_same : (test : Combination → Bool) (given : List Place) → in_range common_sets given ≡ true → (combinations : List Combination) → AllByRecursion Told combinations
      → list_all (λ rows. not (test rows) || same_places (places_at rows) given) combinations ≡ list_all (λ rows. not (test rows) || has_tuple_in query query_sets (shared_at given) rows) combinations
  tests_same test given within [] told = refl
  tests_same test given within (rows ∷ combinations) told = λ i. (not (test rows) || sym (told.0.1 given within) i) && tests_same test given within combinations told.1 i

  one_within : (test : Combination → Bool) (given : List Place) (combinations : List Combination) → AllByRecursion Told combinations → list_any test combinations ≡ true
      → list_all (λ rows. not (test rows) || same_places (places_at rows) given) combinations ≡ true → in_range common_sets given ≡ true
  one_within test given [] told any all = absurd (false≢true any)
  one_within test given (rows ∷ combinations) told any all =
      let both = and_parts (not (test rows) || same_places (places_at rows) given) (list_all (λ rows. not (test rows) || same_places (places_at rows) given) combinations) all in
      by (test rows) any both.0 (λ later. one_within test given combinations told.1 later both.1)
    where
      by : (b : Bool) → (b || list_any test combinations) ≡ true → (not b || same_places (places_at rows) given) ≡ true → (list_any test combinations ≡ true → in_range common_sets given ≡ true) → in_range common_sets given ≡ true
      by true any same later = subst (λ (l : List Place). in_range common_sets l ≡ true) (same-exact (places_at rows) given same) told.0.0
      by false any same later = later any

  -- combinations of the product that pass a test have the mark of one virtual tuple exactly when
  -- there are some and all have that tuple
  pub marked-alone : (test : Combination → Bool) (given : List Place)
      → is_one given (mark_of (map places_at (filter test (product (rows_of query_sets)))))
      ≡ (in_range common_sets given && (list_any test (product (rows_of query_sets))
      && list_all (λ rows. not (test rows) || has_tuple_in query query_sets (shared_at given) rows) (product (rows_of query_sets))))
  marked-alone test given = is_one-passing places_at test given (product (rows_of query_sets)) ∙ by (in_range common_sets given) refl
    where
      all : List Combination
      all = product (rows_of query_sets)

      alike : Bool
      alike = list_all (λ rows. not (test rows) || same_places (places_at rows) given) all

      neither : (a b : Bool) → (a ≡ true → b ≡ true → ⊥) → (a && b) ≡ false
      neither true true wrong = absurd (wrong refl refl)
      neither true false wrong = refl
      neither false b wrong = refl

      by : (within : Bool) → in_range common_sets given ≡ within
          → (list_any test all && alike) ≡ (in_range common_sets given && (list_any test all && list_all (λ rows. not (test rows) || has_tuple_in query query_sets (shared_at given) rows) all))
      by true e = ap (λ b. list_any test all && b) (tests_same test given e all all_told) ∙ sym (ap (λ b. b && (list_any test all && list_all (λ rows. not (test rows) || has_tuple_in query query_sets (shared_at given) rows) all)) e)
      by false e =
          neither (list_any test all) alike (λ any all_same. false≢true (sym e ∙ one_within test given all all_told any all_same))
          ∙ sym (ap (λ b. b && (list_any test all && list_all (λ rows. not (test rows) || has_tuple_in query query_sets (shared_at given) rows) all)) e)
