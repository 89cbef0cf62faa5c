-- The first places for which both sides have a combination are those of the first shared tuple. The
-- first of given places are those of the first virtual tuple that passes a test.
use Rattle.std.proofs.Common.{◌≡◌, ℕ, zero, suc, ◌<◌, Bool, true, false, ◌&&◌, List, [], ◌∷◌, map, length, refl, sym, ap, subst, ◌∙◌, Option, Some, None, option_map, replicate, arith}
use Rattle.std.specs.Prelude.{bytes_eq, find, IfSome}
use Rattle.std.specs.List.{All, AllByRecursion, IsDistinct, list_any}
use Rattle.std.proofs.lemmas.Bool.{and_parts}
use Rattle.hippo_values.specs.declared.names.Name.{Name}
use Rattle.hippo_model.specs.declared.audit.Audit.{Audit}
use Rattle.hippo_model.specs.declared.audit.SharedRow.{SharedRow}
use Rattle.hippo_model.specs.declared.query.Expr.{Expr}
use Rattle.hippo_model.specs.declared.query.Masked.{Masked}
use Rattle.hippo_model.specs.Terms.{Combination, Place}
use Rattle.hippo_tables_keyed.specs.RowSets.{KeyedRows, IsAscending, key_in}
use Rattle.hippo_model.specs.Answers.{product, passes}
use Rattle.hippo_model.specs.Masking.{Choices, is_guarded, masked_passes}
use Rattle.hippo_eval.specs.Unmasked.{all_shown}
use Rattle.hippo_eval.specs.Walks.{rows_of}
use Rattle.hippo_join_stages.specs.Finding.{IsRising}
use Rattle.hippo_join_lookups.specs.Places.{chosen_rows, in_range, places_of}
use Rattle.hippo_join.specs.Existence.{are_shown, HasOne}
use Rattle.hippo_join_lookups.proofs.SlotLemmas.{Fits-open, length-in_range}
use Rattle.hippo_audit_search.specs.declared.audited.Audited.{Audited}
use Rattle.hippo_audit_search.specs.declared.sharing.AuditSide.{AuditSide}
use Rattle.hippo_audit_search.specs.declared.sides.Sides.{Sides}
use Rattle.hippo_audit_search.specs.Audited.{HasRowsFor}
use Rattle.hippo_audit_common.specs.Commons.{common_tables, place_in}
use Rattle.hippo_audit_search.specs.Sharing.{rows_named, HaveSameRows, virtual_tuples_in, has_tuple_in, query_has, audit_has, first_shared}
use Rattle.hippo_audit_search.specs.Tuples.{tuple_at}
use Rattle.hippo_audit_search.specs.FirstPlaces.{AreCommon, ShareAt, IsFirst, IsFirstAmong, with_rows}
use Rattle.hippo_audit_search.specs.Candidates.{AreCandidates, first_passing}
use Rattle.hippo_audit_search.proofs.AmongLemmas.{find-filter, find-same, and_grouped, those-of, found-among, among-holds}
use Rattle.hippo_audit_search.specs.Searching.{SharedBy}
use Rattle.hippo_audit_search.specs.Sides.{common_in, AreSidesOf, RepresentsAudit}
use Rattle.hippo_audit_search.proofs.CommonLemmas.{place-found, common-in-query, common-in-audit, common-distinct, common-open}
use Rattle.hippo_audit_search.proofs.FirstLemmas.{find-map, find-first, find-none, first-holds}
use Rattle.hippo_audit_search.proofs.SideLemmas.{one-of-product, any-of-product, share-both, both-share, one-agrees, agrees-one, counts-parts, parts-counted, implied_query, passes-implied_query}
use Rattle.hippo_audit_search.proofs.TupleLemmas.{AllStandIn, tuples-by-places, agrees-from-tuple, tuple-from-agrees, agrees-in-range}

length_map : {A B : Type 0} (f : A → B) (xs : List A) → length (map f xs) ≡ length xs
length_map f [] = refl
length_map f (x ∷ xs) = ap suc (length_map f xs)

from_all : {X : Type 0} (P : X → Type 0) (xs : List X) → All P xs → AllByRecursion P xs
from_all P [] all = tt
from_all P (x ∷ xs) all = (all 0 x (omega arith), from_all P xs (λ k d within. all (suc k) d (omega arith)))

each_itself : {X Y : Type 0} (f : X → Y) (xs : List X) → AllByRecursion (λ x. f x ≡ f x) xs
each_itself f [] = tt
each_itself f (x ∷ xs) = (refl, each_itself f xs)

all_places : (tables : List Name) (n : ℕ) → length tables ≡ n → (common : List Name) → AllStandIn tables common → All (λ place. place < n) (map (place_in tables) common)
all_places tables n long [] all = λ k d within. absurd (omega arith)
all_places tables n long (table ∷ common) all = by (all_places tables n long common all.1)
  where
    by : All (λ place. place < n) (map (place_in tables) common) → All (λ place. place < n) (place_in tables table ∷ map (place_in tables) common)
    by later zero d within = subst (λ (m : ℕ). place_in tables table < m) long (place-found tables table all.0).0
    by later (suc k) d within = later k d (omega arith)

-- a side has a combination with the rows at given places exactly when it has one with their keys
module _ (choices : Choices) (query : Masked) (seen : List Expr) (tables : List Name) (sets : List KeyedRows) (names : List Name) (others : List KeyedRows) (common : List Name)
    (long : length sets ≡ length tables) (long_others : length others ≡ length names) (here : AllStandIn tables common) (there : AllStandIn names common) (distinct : IsDistinct bytes_eq common)
    (same : AllByRecursion (λ table. rows_named tables sets table ≡ rows_named names others table) common)
    (counted : Combination → Bool) (counted_is : (rows : Combination) → counted rows ≡ (is_guarded choices query rows && masked_passes choices query rows && are_shown choices seen rows)) where
  abbrev slots : List (Option Place)
  slots = replicate (length sets) None

  abbrev tuple : List Place → List SharedRow
  tuple given = tuple_at names others (map (place_in names) common) given

  abbrev has_one_with : List SharedRow → Bool
  has_one_with shared = list_any (λ rows. has_tuple_in tables sets shared rows && counted rows) (product (rows_of sets))

  pub side-so : (given : List Place) → length given ≡ length common → HasOne choices query seen sets (with_rows (map (place_in tables) common) given slots) → has_one_with (tuple given) ≡ true
  side-so given long_given one =
      let found = one-agrees choices query seen sets (map (place_in tables) common) given slots (common-open tables common (length sets) distinct here (sym long)) (long_given ∙ sym (length_map (place_in tables) common)) one in
      let places = found.0.places in
      let parts = parts-counted choices query seen sets places found.0.counts in
      let has = tuple-from-agrees tables sets names others long long_others common here there same given places found.1 in
      any-of-product sets (λ rows. has_tuple_in tables sets (tuple given) rows && counted rows) places parts.0
      (λ i. has i && (counted_is (chosen_rows sets places) ∙ (λ j. parts.1 j && found.0.shows j)) i)

  pub side-back : All (λ set. IsAscending (map (key_in set.key) set.rows)) others → (given : List Place) → in_range (map (rows_named names others) common) given ≡ true → has_one_with (tuple given) ≡ true
      → HasOne choices query seen sets (with_rows (map (place_in tables) common) given slots)
  side-back ascend given within has =
      let found = one-of-product sets (λ rows. has_tuple_in tables sets (tuple given) rows && counted rows) has in
      let places = found.0 in
      let both = and_parts (has_tuple_in tables sets (tuple given) (chosen_rows sets places)) (counted (chosen_rows sets places)) found.2 in
      let parts = and_parts (is_guarded choices query (chosen_rows sets places) && masked_passes choices query (chosen_rows sets places)) (are_shown choices seen (chosen_rows sets places)) (sym (counted_is (chosen_rows sets places)) ∙ both.1) in
      let agree = agrees-from-tuple tables sets names others long long_others common here there same ascend given places found.1 within both.0 in
      let one : HasOne choices query seen sets slots = record {
        places = places;
        fits = Fits-open places (length sets) (length-in_range sets places found.1);
        counts = counts-parts choices query seen sets places found.1 parts.0;
        shows = parts.1;
      } in
      agrees-one choices query seen sets (map (place_in tables) common) given slots one agree

and_true : (b : Bool) → b ≡ ((true && b) && true)
and_true true = refl
and_true false = refl

not_so : (b : Bool) → ¬ (b ≡ true) → b ≡ false
not_so true wrong = absurd (wrong refl)
not_so false wrong = refl

module _ (choices : Choices) (query : Masked) (audit : Audit) (seen : List Expr) (query_sets audit_sets : List KeyedRows)
    (long_query : length query_sets ≡ length query.tables) (long_audit : length audit_sets ≡ length audit.tables) (distinct : IsDistinct bytes_eq audit.tables)
    (same : HaveSameRows query.tables query_sets audit.tables audit_sets) (ascend : All (λ set. IsAscending (map (key_in set.key) set.rows)) audit_sets) where
  abbrev common : List Name
  common = common_tables query.tables audit.tables

  abbrev query_places : List Place
  query_places = map (place_in query.tables) common

  abbrev audit_places : List Place
  audit_places = map (place_in audit.tables) common

  abbrev QueryHas : List (Option Place) → Type 0
  QueryHas slots = HasOne choices query seen query_sets slots

  abbrev AuditHas : List (Option Place) → Type 0
  AuditHas slots = HasOne choices (implied_query audit.cond) [] audit_sets slots

  abbrev Holds : List Place → Type 0
  Holds given = ShareAt QueryHas AuditHas query_places audit_places (replicate (length query_sets) None) (replicate (length audit_sets) None) given

  abbrev shared_at : List Place → List SharedRow
  shared_at given = tuple_at audit.tables audit_sets audit_places given

  abbrev shares : List SharedRow → Bool
  shares tuple = query_has choices query seen query_sets tuple && audit_has audit audit_sets tuple

  abbrev common_sets : List KeyedRows
  common_sets = map (rows_named audit.tables audit_sets) common

  in_query : AllStandIn query.tables common
  in_query = common-in-query query.tables audit.tables

  in_audit : AllStandIn audit.tables common
  in_audit = common-in-audit query.tables audit.tables

  apart : IsDistinct bytes_eq common
  apart = common-distinct query.tables audit.tables distinct

  same_rows : AllByRecursion (λ table. rows_named query.tables query_sets table ≡ rows_named audit.tables audit_sets table) common
  same_rows = from_all (λ table. rows_named query.tables query_sets table ≡ rows_named audit.tables audit_sets table) common same

  own_rows : AllByRecursion (λ table. rows_named audit.tables audit_sets table ≡ rows_named audit.tables audit_sets table) common
  own_rows = each_itself (rows_named audit.tables audit_sets) common

  audit_counts : (rows : Combination) → passes audit.cond (all_shown rows) ≡ (is_guarded choices (implied_query audit.cond) rows && masked_passes choices (implied_query audit.cond) rows && are_shown choices [] rows)
  audit_counts rows = sym (passes-implied_query choices audit.cond rows) ∙ and_true (masked_passes choices (implied_query audit.cond) rows)

  so : (given : List Place) → Holds given → shares (shared_at given) ≡ true
  so given holds =
      let both = share-both QueryHas AuditHas query_places audit_places (replicate (length query_sets) None) (replicate (length audit_sets) None) given holds in
      let long = both.0 ∙ length_map (place_in query.tables) common in
      let first = side-so choices query seen query.tables query_sets audit.tables audit_sets common long_query long_audit in_query in_audit apart same_rows
      (λ rows. is_guarded choices query rows && masked_passes choices query rows && are_shown choices seen rows) (λ rows. refl) given long both.1 in
      let second = side-so choices (implied_query audit.cond) [] audit.tables audit_sets audit.tables audit_sets common long_audit long_audit in_audit in_audit apart own_rows
      (λ rows. passes audit.cond (all_shown rows)) audit_counts given long both.2 in
      λ i. first i && second i

  within : (given : List Place) → Holds given → in_range common_sets given ≡ true
  within given holds =
      let both = share-both QueryHas AuditHas query_places audit_places (replicate (length query_sets) None) (replicate (length audit_sets) None) given holds in
      let long = both.0 ∙ length_map (place_in query.tables) common ∙ sym (length_map (place_in audit.tables) common) in
      let found = one-agrees choices (implied_query audit.cond) [] audit_sets audit_places given (replicate (length audit_sets) None)
      (common-open audit.tables common (length audit_sets) apart in_audit (sym long_audit)) long both.2 in
      agrees-in-range audit.tables audit_sets long_audit common in_audit given found.0.places (parts-counted choices (implied_query audit.cond) [] audit_sets found.0.places found.0.counts).0 found.1

  back : (given : List Place) → in_range common_sets given ≡ true → shares (shared_at given) ≡ true → Holds given
  back given in_sets passed =
      let both = and_parts (query_has choices query seen query_sets (shared_at given)) (audit_has audit audit_sets (shared_at given)) passed in
      let long = length-in_range common_sets given in_sets ∙ length_map (rows_named audit.tables audit_sets) common in
      both-share QueryHas AuditHas query_places audit_places (replicate (length query_sets) None) (replicate (length audit_sets) None) given
      (long ∙ sym (length_map (place_in query.tables) common)) (long ∙ sym (length_map (place_in audit.tables) common))
      (side-back choices query seen query.tables query_sets audit.tables audit_sets common long_query long_audit in_query in_audit apart same_rows
      (λ rows. is_guarded choices query rows && masked_passes choices query rows && are_shown choices seen rows) (λ rows. refl) ascend given in_sets both.0)
      (side-back choices (implied_query audit.cond) [] audit.tables audit_sets audit.tables audit_sets common long_audit long_audit in_audit in_audit apart own_rows
      (λ rows. passes audit.cond (all_shown rows)) audit_counts ascend given in_sets both.1)

  found_is : (found : Option (List Place)) → IsFirst Holds found → find (λ given. shares (shared_at given)) (places_of common_sets) ≡ found
  found_is (Some given) first = find-first common_sets (λ given. shares (shared_at given)) Holds within so back given first
  found_is None none = find-none common_sets (λ given. shares (shared_at given)) (λ given in_sets. not_so (shares (shared_at given)) (λ passed. none given (back given in_sets passed)))

  shared-is : (found : Option (List Place)) → IsFirst Holds found → option_map shared_at found ≡ first_shared choices query audit seen query_sets audit_sets
  shared-is found first =
      sym (ap (find shares) (tuples-by-places audit.tables audit_sets common in_audit) ∙ find-map shares shared_at (places_of common_sets) ∙ ap (option_map shared_at) (found_is found first))

  -- the first of given ascending places, which are those of the virtual tuples that pass a test
  candidate-is : (test : List SharedRow → Bool) (candidates : List (List Place)) → IsRising candidates → AreCandidates test audit.tables audit_sets common candidates → (found : Option (List Place)) → IsFirstAmong Holds candidates found
      → option_map shared_at found ≡ first_passing test choices query audit seen query_sets audit_sets
  candidate-is test candidates rising those found first =
      let passes : List Place → Bool = λ given. shares (shared_at given) in
      let chosen_by : List Place → Bool = λ given. test (shared_at given) in
      let here : find passes candidates ≡ found =
      found-among Holds passes candidates (λ given has. (so given, back given (and_parts (in_range common_sets given) (chosen_by given) (sym (those given) ∙ has)).0)) found first in
      let tuples = virtual_tuples_in audit.tables audit_sets common in
      sym (find-same (λ tuple. test tuple && query_has choices query seen query_sets tuple && audit_has audit audit_sets tuple) (λ tuple. test tuple && shares tuple)
      (λ tuple. and_grouped (test tuple) (query_has choices query seen query_sets tuple) (audit_has audit audit_sets tuple)) tuples
      ∙ ap (find (λ tuple. test tuple && shares tuple)) (tuples-by-places audit.tables audit_sets common in_audit)
      ∙ find-map (λ tuple. test tuple && shares tuple) shared_at (places_of common_sets)
      ∙ ap (option_map shared_at) (find-filter chosen_by passes (places_of common_sets) ∙ ap (find passes) (sym (those-of common_sets chosen_by candidates rising those)) ∙ here))

-- the places of the common tables meet the requirements of a search
module _ {C : Type 0} (query : Masked) (audited : Audited C) (rows : HasRowsFor query.tables audited) where
  abbrev both : List Name
  both = common_tables query.tables audited.audit.now.tables

  in_either : AllStandIn query.tables both × AllStandIn audited.audit.now.tables both
  in_either = (common-in-query query.tables audited.audit.now.tables, common-in-audit query.tables audited.audit.now.tables)

  none_twice : IsDistinct bytes_eq both
  none_twice = common-distinct query.tables audited.audit.now.tables rows.tables

  served_here : AreCommon (length audited.query_sets.now) (length audited.audit_sets.now) (common_in query.tables query audited.audit.now) (common_in audited.audit.now.tables query audited.audit.now)
  served_here = record {
    query_open = common-open query.tables both (length audited.query_sets.now) none_twice in_either.0 (sym rows.query_sets);
    audit_open = common-open audited.audit.now.tables both (length audited.audit_sets.now) none_twice in_either.1 (sym rows.audit_sets);
    query_below = all_places query.tables (length audited.query_sets.now) (sym rows.query_sets) both in_either.0;
    audit_below = all_places audited.audit.now.tables (length audited.audit_sets.now) (sym rows.audit_sets) both in_either.1;
    same = length_map (place_in query.tables) both ∙ sym (length_map (place_in audited.audit.now.tables) both);
  }

  pub common-served : (side : AuditSide) → RepresentsAudit query audited.audit.now side → AreCommon (length audited.query_sets.now) (length audited.audit_sets.now) side.common.query.items side.common.audit.items
  common-served side stands =
      subst (λ (l : List Place). AreCommon (length audited.query_sets.now) (length audited.audit_sets.now) l side.common.audit.items) (sym stands.query_places)
      (subst (λ (l : List Place). AreCommon (length audited.query_sets.now) (length audited.audit_sets.now) (common_in query.tables query audited.audit.now) l) (sym stands.audit_places) served_here)

  pub below-sets : (items : List Place) → items ≡ common_in audited.audit.now.tables query audited.audit.now → All (λ place. place < length audited.audit_sets.now) items
  below-sets items is = subst (λ (l : List Place). All (λ place. place < length audited.audit_sets.now) l) (sym is) served_here.audit_below

  pub below-names : (items : List Place) (names : List Name) → items ≡ common_in audited.audit.now.tables query audited.audit.now → names ≡ audited.audit.now.tables → All (λ place. place < length names) items
  below-names items names is same_names =
      let all : All (λ place. place < length audited.audit.now.tables) (common_in audited.audit.now.tables query audited.audit.now) = all_places audited.audit.now.tables (length audited.audit.now.tables) refl both in_either.1 in
      let these : All (λ place. place < length audited.audit.now.tables) items = subst (λ (l : List Place). All (λ place. place < length audited.audit.now.tables) l) (sym is) all in
      subst (λ (l : List Name). All (λ place. place < length l) items) (sym same_names) these

-- the result of a search over both sides
module _ {C : Type 0} (choices : C → Choices) (query : Masked) (seen : List Expr) (audited : Audited C) (rows : HasRowsFor query.tables audited)
    (ascend : All (λ (set : KeyedRows). IsAscending (map (key_in set.key) set.rows)) audited.audit_sets.now) (sides : Sides C) (are : AreSidesOf query seen audited sides) where
  abbrev now : Choices
  now = choices audited.choices.now

  abbrev tuple_here : List Place → List SharedRow
  tuple_here given = tuple_at audited.audit.now.tables audited.audit_sets.now (common_in audited.audit.now.tables query audited.audit.now) given

  abbrev Here : List Place → Type 0
  Here given =
      ShareAt (λ slots. HasOne now query seen audited.query_sets.now slots) (λ slots. HasOne now (implied_query audited.audit.now.cond) [] audited.audit_sets.now slots)
      (common_in query.tables query audited.audit.now) (common_in audited.audit.now.tables query audited.audit.now)
      (replicate (length audited.query_sets.now) None) (replicate (length audited.audit_sets.now) None) given

  shared_here : SharedBy choices sides ≡ Here
  shared_here = λ i given.
      ShareAt (λ slots. HasOne (choices (are.query_choices i)) (are.query_is i) (are.seen_is i) (are.query_rows i) slots) (λ slots. HasOne (choices (are.audit_choices i)) (are.audit_is i) [] (are.audit_rows i) slots)
      (are.query_places i) (are.audit_places i) (replicate (length (are.query_rows i)) None) (replicate (length (are.audit_rows i)) None) given

  long_here : (given : List Place) → Here given → length given ≡ length (common_in audited.audit.now.tables query audited.audit.now)
  long_here given holds =
      let both = share-both (λ slots. HasOne now query seen audited.query_sets.now slots) (λ slots. HasOne now (implied_query audited.audit.now.cond) [] audited.audit_sets.now slots)
      (common_in query.tables query audited.audit.now) (common_in audited.audit.now.tables query audited.audit.now)
      (replicate (length audited.query_sets.now) None) (replicate (length audited.audit_sets.now) None) given holds in
      both.0 ∙ length_map (place_in query.tables) (common_tables query.tables audited.audit.now.tables) ∙ sym (length_map (place_in audited.audit.now.tables) (common_tables query.tables audited.audit.now.tables))

  -- a tuple has a place for each common table
  pub found-long : (found : Option (List Place)) → IsFirst (SharedBy choices sides) found → IfSome found (λ places. length places ≡ length (common_in audited.audit.now.tables query audited.audit.now))
  found-long None first = tt
  found-long (Some places) first = long_here places (first-holds Here places (subst (λ (holds : List Place → Type 0). IsFirst holds (Some places)) shared_here first))

  pub candidate-long : (candidates : List (List Place)) (found : Option (List Place)) → IsFirstAmong (SharedBy choices sides) candidates found → IfSome found (λ places. length places ≡ length (common_in audited.audit.now.tables query audited.audit.now))
  candidate-long candidates None first = tt
  candidate-long candidates (Some places) first = long_here places (among-holds Here candidates places (subst (λ (holds : List Place → Type 0). IsFirstAmong holds candidates (Some places)) shared_here first))

  -- the first of all
  pub first-told : (found : Option (List Place)) → IsFirst (SharedBy choices sides) found → option_map tuple_here found ≡ first_shared now query audited.audit.now seen audited.query_sets.now audited.audit_sets.now
  first-told found first =
      shared-is now query audited.audit.now seen audited.query_sets.now audited.audit_sets.now rows.query_sets rows.audit_sets rows.tables rows.rows ascend found
      (subst (λ (holds : List Place → Type 0). IsFirst holds found) shared_here first)

  -- the first of given ascending places
  pub candidate-told : (candidates : List (List Place)) → IsRising candidates → (found : Option (List Place)) → IsFirstAmong (SharedBy choices sides) candidates found → (test : List SharedRow → Bool)
      → AreCandidates test audited.audit.now.tables audited.audit_sets.now (common_tables query.tables audited.audit.now.tables) candidates
      → option_map tuple_here found ≡ first_passing test now query audited.audit.now seen audited.query_sets.now audited.audit_sets.now
  candidate-told candidates rising found first test those =
      candidate-is now query audited.audit.now seen audited.query_sets.now audited.audit_sets.now rows.query_sets rows.audit_sets rows.tables rows.rows ascend test candidates rising those found
      (subst (λ (holds : List Place → Type 0). IsFirstAmong holds candidates found) shared_here first)
