-- The tables that two sides have in common, and their places.
use Rattle.std.proofs.Common.{◌≡◌, ℕ, zero, suc, ◌+◌, ◌<◌, Bool, true, false, ◌||◌, not, cond, List, [], ◌∷◌, map, length, get_or, refl, sym, ap, subst, ◌∙◌, Option, Some, None, arith, replicate}
use Rattle.std.specs.Prelude.{slice_get, slice_set, bytes_eq}
use Rattle.std.specs.List.{list_any, AllByRecursion, IsDistinct}
use Rattle.std.proofs.lemmas.Bool.{false≢true, or_right}
use Rattle.std.proofs.lemmas.Slice.Eq.{bytes_eq-Decides}
use Rattle.hippo_values.specs.declared.names.Name.{Name}
use Rattle.hippo_model.specs.Terms.{Place}
use Rattle.hippo_audit_common.specs.Commons.{common_tables, place_in}
use Rattle.hippo_audit_search.specs.FirstPlaces.{AreOpen}

pub same_name : (a b : Name) → bytes_eq a b ≡ true → a ≡ b
same_name a b same = (bytes_eq-Decides a b).0 same

pub same_as_itself : (a : Name) → bytes_eq a a ≡ true
same_as_itself a = (bytes_eq-Decides a a).1 refl

one_after : (first : Name) (tables : List Name) (place : ℕ) → get_or (first ∷ tables) (1 + place) [] ≡ get_or tables place []
one_after first tables place = let next : 1 + place ≡ suc place = omega arith in rw next refl

abbrev Found : Name → List Name → Name → ℕ → Type 0
Found first tables table place = (place < suc (length tables)) × (get_or (first ∷ tables) place [] ≡ table)

-- a table in a list is at its place
pub place-found : (tables : List Name) (table : Name) → list_any (bytes_eq table) tables ≡ true → (place_in tables table < length tables) × (get_or tables (place_in tables table) [] ≡ table)
place-found [] table has = absurd (false≢true has)
place-found (first ∷ tables) table has = by (bytes_eq table first) refl has (place-found tables table)
  where
    by : (b : Bool) → bytes_eq table first ≡ b → (b || list_any (bytes_eq table) tables) ≡ true
        → (list_any (bytes_eq table) tables ≡ true → (place_in tables table < length tables) × (get_or tables (place_in tables table) [] ≡ table))
        → Found first tables table (cond (not b) (1 + place_in tables table) 0)
    by true e has later = (omega arith, sym (same_name table first e))
    by false e has later = let found = later has in (omega (arith, found.0), one_after first tables (place_in tables table) ∙ found.1)

-- what is true of a table in both lists
abbrev pub InBoth : List Name → List Name → Name → Type 0
InBoth query audit table = (list_any (bytes_eq table) query ≡ true) × (list_any (bytes_eq table) audit ≡ true)

all_more : (P Q : Name → Type 0) → ((name : Name) → P name → Q name) → (names : List Name) → AllByRecursion P names → AllByRecursion Q names
all_more P Q stage [] all = tt
all_more P Q stage (name ∷ names) all = (stage name all.0, all_more P Q stage names all.1)

each_stands : (names : List Name) → AllByRecursion (λ name. list_any (bytes_eq name) names ≡ true) names
each_stands [] = tt
each_stands (first ∷ names) = (
  ap (λ b. b || list_any (bytes_eq first) names) (same_as_itself first),
  all_more (λ name. list_any (bytes_eq name) names ≡ true) (λ name. list_any (bytes_eq name) (first ∷ names) ≡ true)
      (λ name. or_right (bytes_eq name first) (list_any (bytes_eq name) names)) names (each_stands names),
)

in_filter : (query audit names : List Name) → AllByRecursion (λ name. list_any (bytes_eq name) audit ≡ true) names → AllByRecursion (InBoth query audit) (common_tables query names)
in_filter query audit [] all = tt
in_filter query audit (name ∷ names) all = by (list_any (bytes_eq name) query) refl (in_filter query audit names all.1)
  where
    by : (b : Bool) → list_any (bytes_eq name) query ≡ b → AllByRecursion (InBoth query audit) (common_tables query names) → AllByRecursion (InBoth query audit) (cond b (name ∷ common_tables query names) (common_tables query names))
    by true e rest = ((e, all.0), rest)
    by false e rest = rest

common-in-both : (query audit : List Name) → AllByRecursion (InBoth query audit) (common_tables query audit)
common-in-both query audit = in_filter query audit audit (each_stands audit)

pub common-in-query : (query audit : List Name) → AllByRecursion (λ table. list_any (bytes_eq table) query ≡ true) (common_tables query audit)
common-in-query query audit = all_more (InBoth query audit) (λ table. list_any (bytes_eq table) query ≡ true) (λ name both. both.0) (common_tables query audit) (common-in-both query audit)

pub common-in-audit : (query audit : List Name) → AllByRecursion (λ table. list_any (bytes_eq table) audit ≡ true) (common_tables query audit)
common-in-audit query audit = all_more (InBoth query audit) (λ table. list_any (bytes_eq table) audit ≡ true) (λ name both. both.1) (common_tables query audit) (common-in-both query audit)

-- different tables are at different places
kept_apart : (query : List Name) (name : Name) (names : List Name) → AllByRecursion (λ other. bytes_eq name other ≡ false) names → AllByRecursion (λ other. bytes_eq name other ≡ false) (common_tables query names)
kept_apart query name [] apart = tt
kept_apart query name (other ∷ names) apart = by (list_any (bytes_eq other) query) (kept_apart query name names apart.1)
  where
    by : (b : Bool) → AllByRecursion (λ o. bytes_eq name o ≡ false) (common_tables query names) → AllByRecursion (λ o. bytes_eq name o ≡ false) (cond b (other ∷ common_tables query names) (common_tables query names))
    by true rest = (apart.0, rest)
    by false rest = rest

pub common-distinct : (query audit : List Name) → IsDistinct bytes_eq audit → IsDistinct bytes_eq (common_tables query audit)
unfolding IsDistinct
common-distinct query [] distinct = tt
common-distinct query (name ∷ names) distinct = by (list_any (bytes_eq name) query) (common-distinct query names distinct.1)
  where
    by : (b : Bool) → IsDistinct bytes_eq (common_tables query names) → IsDistinct bytes_eq (cond b (name ∷ common_tables query names) (common_tables query names))
    by true rest = (kept_apart query name names distinct.0, rest)
    by false rest = rest

-- places at which nothing is chosen, each listed once
set_beside : (slots : List (Option Place)) (table other : Place) (slot : Option Place) → ¬ (table ≡ other) → slice_get (slice_set slots table slot) other ≡ slice_get slots other
set_beside [] table other slot apart = refl
set_beside (first ∷ slots) zero zero slot apart = absurd (apart refl)
set_beside (first ∷ slots) zero (suc other) slot apart = refl
set_beside (first ∷ slots) (suc table) zero slot apart = refl
set_beside (first ∷ slots) (suc table) (suc other) slot apart = set_beside slots table other slot (λ e. apart (ap suc e))

abbrev AreAt : List Name → List (Option Place) → List Name → Type 0
AreAt tables slots common = AllByRecursion (λ table. (list_any (bytes_eq table) tables ≡ true) × (slice_get slots (place_in tables table) ≡ Some None)) common

places_apart : (tables : List Name) (table other : Name) → list_any (bytes_eq table) tables ≡ true → list_any (bytes_eq other) tables ≡ true → bytes_eq table other ≡ false → ¬ (place_in tables table ≡ place_in tables other)
places_apart tables table other has there apart same =
    let one : table ≡ other = sym (place-found tables table has).1 ∙ ap (λ p. get_or tables p []) same ∙ (place-found tables other there).1 in
    false≢true (sym apart ∙ ap (λ (o : Name). bytes_eq table o) (sym one) ∙ same_as_itself table)

still_open : (tables : List Name) (slots : List (Option Place)) (table : Name) (slot : Option Place) (common : List Name) → list_any (bytes_eq table) tables ≡ true → AllByRecursion (λ other. bytes_eq table other ≡ false) common → AreAt tables slots common
    → AreAt tables (slice_set slots (place_in tables table) slot) common
still_open tables slots table slot [] has apart all = tt
still_open tables slots table slot (other ∷ common) has apart all = (
  (all.0.0, set_beside slots (place_in tables table) (place_in tables other) slot (places_apart tables table other has all.0.0 apart.0) ∙ all.0.1),
  still_open tables slots table slot common has apart.1 all.1,
)

open_at : (tables : List Name) (slots : List (Option Place)) (common : List Name) → IsDistinct bytes_eq common → AreAt tables slots common → AreOpen (map (place_in tables) common) slots
unfolding IsDistinct
open_at tables slots [] distinct all = tt
open_at tables slots (table ∷ common) distinct all =
    (all.0.1, λ place. open_at tables (slice_set slots (place_in tables table) (Some place)) common distinct.1 (still_open tables slots table (Some place) common all.0.0 distinct.0 all.1))

unchosen : (n place : ℕ) → place < n → slice_get (replicate {A = Option Place} n None) place ≡ Some None
unchosen zero place within = absurd (omega arith)
unchosen (suc n) zero within = refl
unchosen (suc n) (suc place) within = unchosen n place (omega arith)

-- at the start no row is chosen in the common tables
pub common-open : (tables common : List Name) (n : ℕ) → IsDistinct bytes_eq common → AllByRecursion (λ table. list_any (bytes_eq table) tables ≡ true) common → length tables ≡ n → AreOpen (map (place_in tables) common) (replicate n None)
common-open tables common n distinct all long =
    open_at tables (replicate n None) common distinct
    (all_more (λ table. list_any (bytes_eq table) tables ≡ true) (λ table. (list_any (bytes_eq table) tables ≡ true) × (slice_get (replicate {A = Option Place} n None) (place_in tables table) ≡ Some None))
    (λ table has. (has, unchosen n (place_in tables table) (subst (λ (m : ℕ). place_in tables table < m) long (place-found tables table has).0))) common all)
