-- The places of columns that a statement names.
use Rattle.std.proofs.Common.{◌≡◌, ℕ, suc, ◌<◌, ◌≤◌, true, false, List, [], ◌∷◌, length, get_or, Option, Some, None, refl, sym, ap, subst, ◌∙◌, arith}
use Rattle.std.specs.Prelude.{not, ◌||◌, nat_eq, nat_lt, slice_get, position, is_none, bytes_eq}
use Rattle.std.specs.Cmp.Lexicographic.{nat_list_eq_equiv}
use Rattle.std.specs.List.{list_any, list_all, cons_option}
use Rattle.std.proofs.lemmas.Bool.{and_parts, and_from, or_parts, ltb-true, lt-ltb, eqb-true, not-true, not_from_false, false_from_ne_true, false≢true, or_from}
use Rattle.std.proofs.lemmas.List.Quantifiers.{position-Some}
use Rattle.std.proofs.lemmas.Map.Steps.{length-le_from_distinct_below}
use Rattle.std.proofs.lemmas.Option.{slice_get-get_or}
use Rattle.std.proofs.lemmas.Slice.Eq.{bytes_eq-Decides}
use Rattle.hippo_values.specs.declared.names.Name.{Name}
use Rattle.hippo_model.specs.declared.name_fault.NameFault.TheVariants.{UnknownColumn}
use Rattle.hippo_model.specs.declared.schema.Column.{Column}
use Rattle.hippo_model.specs.declared.schema.Schema.{Schema}
use Rattle.hippo_model.specs.Terms.{Place}
use Rattle.hippo_model.specs.Validity.{all_differ}
use Rattle.hippo_typing_catalog.specs.ChangesRefused.{places_named, unknown_columns}
use Rattle.hippo_typing_catalog.specs.Refusals.{fault_if}
use Rattle.hippo_typing_catalog.specs.WrittenColumns.{place_of}
use Rattle.hippo_typing_catalog.proofs.DifferLemmas.{none_of_both, distinct_so}

-- the column at the place of a name
pub record IsColumnAt (schema : Schema) (name : Name) (place : Place) : Type 0 where
  pub column : Column
  pub at : slice_get schema.columns place ≡ Some column
  pub named : name ≡ column.name
  pub within : place < length schema.columns

found_in : (schema : Schema) (name : Name) (columns : List Column) (place : Place) → columns ≡ schema.columns → position (λ (known : Column). bytes_eq name known.name) columns ≡ Some place → IsColumnAt schema name place
found_in schema name [] place same found = absurd cc
found_in schema name (first ∷ rest) place same found =
    let there = position-Some (λ (known : Column). bytes_eq name known.name) (first ∷ rest) place first found in
    let column : Column = get_or (first ∷ rest) place first in
    record {
      column = column;
      at = subst (λ (columns : List Column). slice_get columns place ≡ Some column) same (slice_get-get_or (first ∷ rest) place first there.0);
      named = (bytes_eq-Decides name column.name).0 there.1;
      within = subst (λ (columns : List Column). place < length columns) same there.0;
    }

pub found_at : (schema : Schema) (name : Name) (place : Place) → place_of schema name ≡ Some place → IsColumnAt schema name place
found_at schema name place found = found_in schema name schema.columns place refl found

-- the place of the first name, and the columns of the others
pub record IsParted (schema : Schema) (name : Name) (rest : List Name) : Type 0 where
  pub place : Place
  pub found : place_of schema name ≡ Some place
  pub known : unknown_columns schema rest ≡ []

pub parted : (schema : Schema) (name : Name) (rest : List Name) → unknown_columns schema (name ∷ rest) ≡ [] → IsParted schema name rest
parted schema name rest none =
    let both = none_of_both (fault_if (is_none (place_of schema name)) (UnknownColumn name)) (unknown_columns schema rest) none in
    elim (place_of schema name) as (λ found. place_of schema name ≡ found → fault_if (is_none found) (UnknownColumn name) ≡ [] → IsParted schema name rest) [
      | None ↦ λ e none. absurd cc
      | Some place ↦ λ e none. record { place = place; found = e; known = both.1 }
    ] refl both.0

-- each name has a place
pub length-places : (schema : Schema) (names : List Name) → unknown_columns schema names ≡ [] → length (places_named schema names) ≡ length names
length-places schema [] none = refl
length-places schema (name ∷ rest) none =
    let first = parted schema name rest none in
    ap (λ (found : Option Place). length (cons_option found (places_named schema rest))) first.found ∙ ap suc (length-places schema rest first.known)

-- places lie among the columns
pub places_within : (schema : Schema) (names : List Name) → list_all (λ (place : Place). nat_lt place (length schema.columns)) (places_named schema names) ≡ true
places_within schema [] = refl
places_within schema (name ∷ rest) =
    elim (place_of schema name) as (λ found. place_of schema name ≡ found → list_all (λ (place : Place). nat_lt place (length schema.columns)) (cons_option found (places_named schema rest)) ≡ true) [
      | None ↦ λ e. places_within schema rest
      | Some place ↦ λ e. and_from _ _ (lt-ltb place (length schema.columns) (found_at schema name place e).within) (places_within schema rest)
    ] refl

-- one place belongs to one name only
one_name : (schema : Schema) (name other : Name) (place : Place) → place_of schema name ≡ Some place → place_of schema other ≡ Some place → bytes_eq name other ≡ true
one_name schema name other place is too =
    let first = found_at schema name place is in
    let second = found_at schema other place too in
    let same : Some first.column ≡ Some second.column = sym first.at ∙ second.at in
    let column : first.column ≡ second.column = cc in
    bytes_eq-is name other (first.named ∙ ap (λ (c : Column). c.name) column ∙ sym second.named)
  where
    bytes_eq-is : (a b : Name) → a ≡ b → bytes_eq a b ≡ true
    bytes_eq-is a b same = subst (λ (c : Name). bytes_eq a c ≡ true) same (nat_list_eq_equiv.refl a)

other_places : (schema : Schema) (name : Name) (place : Place) → place_of schema name ≡ Some place → (rest : List Name) → list_any (bytes_eq name) rest ≡ false → list_any (nat_eq place) (places_named schema rest) ≡ false
other_places schema name place is [] none = refl
other_places schema name place is (other ∷ rest) none =
    let parts = or_parts (bytes_eq name other) (list_any (bytes_eq name) rest) none in
    let later = other_places schema name place is rest parts.1 in
    elim (place_of schema other) as (λ found. place_of schema other ≡ found → list_any (nat_eq place) (cons_option found (places_named schema rest)) ≡ false) [
      | None ↦ λ e. later
      | Some second ↦ λ e. or_from (nat_eq place second) (list_any (nat_eq place) (places_named schema rest))
          (false_from_ne_true (nat_eq place second) (λ same.
          let twice : bytes_eq name other ≡ true = one_name schema name other second (is ∙ ap Some (eqb-true place second same)) e in
          false≢true (sym parts.0 ∙ twice))) later
    ] refl

-- the places of different names differ
pub places_differ : (schema : Schema) (names : List Name) → all_differ bytes_eq names ≡ true → all_differ nat_eq (places_named schema names) ≡ true
places_differ schema [] differ = refl
places_differ schema (name ∷ rest) differ =
    let parts = and_parts (not (list_any (bytes_eq name) rest)) (all_differ bytes_eq rest) differ in
    let later = places_differ schema rest parts.1 in
    elim (place_of schema name) as (λ found. place_of schema name ≡ found → all_differ nat_eq (cons_option found (places_named schema rest)) ≡ true) [
      | None ↦ λ e. later
      | Some place ↦ λ e. and_from _ _ (not_from_false _ (other_places schema name place e rest (not-true _ parts.0))) later
    ] refl

below : (count : ℕ) (places : List Place) → list_all (λ (place : Place). nat_lt place count) places ≡ true → (other : Place) → list_any (nat_eq other) places ≡ true → other < count
below count [] all other among = absurd cc
below count (place ∷ rest) all other among =
    let parts = and_parts (nat_lt place count) (list_all (λ (place : Place). nat_lt place count) rest) all in
    elim (nat_eq other place) as (λ same. nat_eq other place ≡ same → (same || list_any (nat_eq other) rest) ≡ true → other < count) [
      | true ↦ λ same among. let is = eqb-true other place same in let here = ltb-true place count parts.0 in omega arith
      | false ↦ λ different among. below count rest parts.1 other among
    ] refl among

-- there are no more different places than columns
pub no_more_than : (count : ℕ) (places : List Place) → all_differ nat_eq places ≡ true → list_all (λ (place : Place). nat_lt place count) places ≡ true → length places ≤ count
no_more_than count places differ all = length-le_from_distinct_below places count (distinct_so nat_eq places differ) (below count places all)

-- places below a number are below any greater number
pub below_more : (count limit : ℕ) (places : List Place) → count ≤ limit → list_all (λ (place : Place). nat_lt place count) places ≡ true → list_all (λ (place : Place). nat_lt place limit) places ≡ true
below_more count limit [] more all = refl
below_more count limit (place ∷ rest) more all =
    let parts = and_parts (nat_lt place count) (list_all (λ (place : Place). nat_lt place count) rest) all in
    let here = ltb-true place count parts.0 in
    and_from _ _ (lt-ltb place limit (omega arith)) (below_more count limit rest more parts.1)
