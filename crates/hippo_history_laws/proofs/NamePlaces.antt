-- Columns with distinct names, by their names.
use Rattle.std.proofs.Common.{◌≡◌, ◌∙◌, zero, suc, ◌<◌, Bool, true, false, not, List, [], ◌∷◌, map, length, Option, Some, refl, ap, arith}
use Rattle.std.specs.Prelude.{nat_lt, bytes_eq}
use Rattle.std.specs.Cmp.Lexicographic.{nat_list_eq_equiv}
use Rattle.std.specs.List.{list_any, list_all, cons_option, position_or_len}
use Rattle.std.proofs.lemmas.Bool.{and_parts, and_from, or_parts, not-true, lt-ltb, ltb-true}
use Rattle.hippo_values.specs.declared.names.Name.{Name}
use Rattle.hippo_model.specs.declared.schema.Column.{Column}
use Rattle.hippo_model.specs.declared.schema.Schema.{Schema}
use Rattle.hippo_model.specs.Keepable.{is_folded_name}
use Rattle.hippo_model.specs.Terms.{Place}
use Rattle.hippo_model.specs.Validity.{all_differ}
use Rattle.hippo_typing_catalog.specs.ChangesRefused.{places_named}
use Rattle.hippo_typing_catalog.specs.WrittenColumns.{place_of}
use Rattle.hippo_history_statements.specs.Telling.{name_at}

abbrev pub column_names : List Column → List Name
column_names columns = map (λ (column : Column). column.name) columns

-- a name that is none of the columns' names finds no column
other_name : (name : Name) (columns : List Column) (place : Place)
    → list_any (bytes_eq name) (column_names columns) ≡ false → place < length columns
    → bytes_eq (name_at columns place) name ≡ false
other_name name [] place none small = absurd (omega (arith, small))
other_name name (column ∷ columns) zero none small =
    nat_list_eq_equiv.symm column.name name
    ∙ (or_parts (bytes_eq name column.name) (list_any (bytes_eq name) (column_names columns))
    none).0
other_name name (column ∷ columns) (suc place) none small =
    other_name name columns place
    (or_parts (bytes_eq name column.name) (list_any (bytes_eq name) (column_names columns)) none).1
    (omega (arith, small))

first_place : (columns : List Column) (place : Place) → all_differ bytes_eq (column_names columns)
    ≡ true → place < length columns
    → position_or_len (λ (known : Column). bytes_eq (name_at columns place) known.name) columns
    ≡ place
first_place [] place differ small = absurd (omega (arith, small))
first_place (column ∷ columns) zero differ small = rw (nat_list_eq_equiv.refl column.name) refl
first_place (column ∷ columns) (suc place) differ small =
    let parts =
    and_parts (not (list_any (bytes_eq column.name) (column_names columns)))
    (all_differ bytes_eq (column_names columns)) differ in
    let other = other_name column.name columns place (not-true _ parts.0) (omega (arith, small)) in
    rw (other, first_place columns place parts.1 (omega (arith, small))) (omega arith)

-- a column is found by its name
pub place_at : (schema : Schema) (place : Place) → all_differ bytes_eq (column_names schema.columns)
    ≡ true → place < length schema.columns → place_of schema (name_at schema.columns place)
    ≡ Some place
place_at schema place differ small =
    rw (first_place schema.columns place differ small, lt-ltb place (length schema.columns) small)
    refl

abbrev pub all_within : List Column → List Place → Bool
all_within columns places = list_all (λ (place : Place). nat_lt place (length columns)) places

pub places_again : (schema : Schema) (places : List Place)
    → all_differ bytes_eq (column_names schema.columns) ≡ true → all_within schema.columns places
    ≡ true → places_named schema (map (name_at schema.columns) places) ≡ places
places_again schema [] differ within = refl
places_again schema (place ∷ places) differ within =
    let parts =
    and_parts (nat_lt place (length schema.columns)) (all_within schema.columns places) within in
    ap (λ (found : Option Place). cons_option found
    (places_named schema (map (name_at schema.columns) places)))
    (place_at schema place differ (ltb-true _ _ parts.0))
    ∙ ap (λ (rest : List Place). place ∷ rest) (places_again schema places differ parts.1)

-- the names of columns are names in lower case
pub name_folded : (columns : List Column) (place : Place)
    → list_all (λ (column : Column). is_folded_name column.name) columns ≡ true
    → place < length columns → is_folded_name (name_at columns place) ≡ true
name_folded [] place all small = absurd (omega (arith, small))
name_folded (column ∷ columns) zero all small =
    (and_parts (is_folded_name column.name)
    (list_all (λ (column : Column). is_folded_name column.name) columns) all).0
name_folded (column ∷ columns) (suc place) all small =
    name_folded columns place
    (and_parts (is_folded_name column.name)
    (list_all (λ (column : Column). is_folded_name column.name) columns) all).1
    (omega (arith, small))

pub names_folded : (columns : List Column) (places : List Place)
    → list_all (λ (column : Column). is_folded_name column.name) columns ≡ true
    → all_within columns places ≡ true
    → list_all (λ (place : Place). is_folded_name (name_at columns place)) places ≡ true
names_folded columns [] all within = refl
names_folded columns (place ∷ places) all within =
    let parts = and_parts (nat_lt place (length columns)) (all_within columns places) within in
    and_from _ _ (name_folded columns place all (ltb-true _ _ parts.0))
    (names_folded columns places all parts.1)
