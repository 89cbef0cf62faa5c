-- Held tables at a place, as the sets and schemas of the history there; and cases in which nothing
-- is shared.
use Rattle.std.proofs.Common.{◌≡◌, ◌⊎◌, inl, inr, ◌∙◌, sym, ap, refl, subst, arith, ℕ, zero, suc, ◌<◌, Bool, true, false, cond, ◌&&◌, List, [], ◌∷◌, map, filter_map, length, take, Option, None, Some, option_map, get_or}
use Rattle.std.specs.Prelude.{nat_lt, bytes_eq, flat_map}
use Rattle.std.specs.List.{AllByRecursion, cons_option, list_any}
use Rattle.std.specs.Option.{option_map_or}
use Rattle.std.proofs.lemmas.Bool.{and_parts, false≢true}
use Rattle.std.proofs.lemmas.List.Elements.{All-from_recursion}
use Rattle.std.proofs.lemmas.Option.{none-some, same_Some}
use Rattle.std.proofs.lemmas.Slice.Eq.{bytes_eq-Decides}
use Rattle.hippo_values.specs.declared.names.Name.{Name}
use Rattle.hippo_model.specs.declared.audit.Audit.{Audit}
use Rattle.hippo_model.specs.declared.audit.SharedRow.{SharedRow}
use Rattle.hippo_model.specs.declared.born_row.BornRow.{BornRow}
use Rattle.hippo_model.specs.declared.query.Form.{Form}
use Rattle.hippo_model.specs.declared.query.Form.TheVariants.{Plain, Distinct, Grouped}
use Rattle.hippo_model.specs.declared.query.Query.{Query}
use Rattle.hippo_model.specs.declared.schema.Schema.{Schema}
use Rattle.hippo_model.specs.Answers.{product, answer_of, query_answer, seen_combinations}
use Rattle.hippo_model.specs.Audits.{needs, query_needs, audit_needs, has_tuple, serves, first_serving}
use Rattle.hippo_model.specs.Forms.{rows_by_form}
use Rattle.hippo_model.specs.Histories.{schema_at}
use Rattle.hippo_tables_keyed.specs.RowSets.{KeyedRows, kept_at}
use Rattle.hippo_model.specs.Terms.{History, ShownRow}
use Rattle.hippo_model.specs.Validity.{is_valid}
use Rattle.hippo_model.specs.Verdicts.{Context}
use Rattle.hippo_model.specs.Views.{view_at, unmasked_at}
use Rattle.hippo_typing.specs.Meanings.{meaning}
use Rattle.hippo_audit_common.specs.Commons.{common_tables, place_in}
use Rattle.hippo_audit_search.specs.Sharing.{rows_named, HaveSameRows}
use Rattle.hippo_audit_search.specs.HistoryLaws.{sets_at}
use Rattle.hippo_audit_search.proofs.CommonLemmas.{place-found, common-in-query, common-in-audit}
use Rattle.hippo_intervals.specs.Living.{HeldLives, LivesFit}
use Rattle.hippo_intervals.proofs.LivesLemmas.{LivesAreThoseOf-fits}
use Rattle.hippo_combine.specs.Held.{lives_of, schema_held, rows_held, place_held, has_some, are_held, AreHeldAt, TablesFit}
use Rattle.hippo_combine.proofs.ExaminerLemmas.{find_none, nothing_of_audit}
use Rattle.hippo_audit_needs.proofs.PastLemmas.{front_valid, lasting, no_rows_yet, no_length, flat_map_none}

abbrev no_set : KeyedRows
no_set = record { key = []; rows = [] }

-- ---- held sets, whether or not the store's contents are known
module _ (tables : List HeldLives) where
  abbrev set_of : Name → KeyedRows
  set_of table = option_map_or (λ (set : KeyedRows). set) (rows_held tables table) no_set

  one_found : (found : Option KeyedRows) (rest : List KeyedRows) → has_some found ≡ true → cons_option found rest ≡ option_map_or (λ (set : KeyedRows). set) found no_set ∷ rest
  one_found None rest some = absurd (false≢true some)
  one_found (Some set) rest some = refl

  -- there is a set for each table
  pub sets_each : (names : List Name) → are_held tables names ≡ true → filter_map (rows_held tables) names ≡ map set_of names
  sets_each [] have = refl
  sets_each (name ∷ names) have =
      let both = and_parts (has_some (rows_held tables name)) (are_held tables names) have in
      let rest = sets_each names both.1 in
      (λ i. cons_option (rows_held tables name) (rest i)) ∙ one_found (rows_held tables name) (map set_of names) both.0

  length_map : {X Y : Type 0} (f : X → Y) (xs : List X) → length (map f xs) ≡ length xs
  length_map f [] = refl
  length_map f (x ∷ xs) = let rest = length_map f xs in omega (arith, rest)

  pub as_many : (names : List Name) → are_held tables names ≡ true → length (filter_map (rows_held tables) names) ≡ length names
  as_many names have = ap length (sets_each names have) ∙ length_map set_of names

  get_map : {X Y : Type 0} (f : X → Y) (xs : List X) (k : ℕ) (d : X) (e : Y) → k < length xs → get_or (map f xs) k e ≡ f (get_or xs k d)
  get_map f [] k d e within = absurd (omega (arith, within))
  get_map f (x ∷ xs) zero d e within = refl
  get_map f (x ∷ xs) (suc k) d e within = get_map f xs k d e (omega (arith, within))

  named_set : (names : List Name) → are_held tables names ≡ true → (table : Name) → list_any (bytes_eq table) names ≡ true → rows_named names (filter_map (rows_held tables) names) table ≡ set_of table
  named_set names have table among =
      let there = place-found names table among in
      ap (λ sets. rows_named names sets table) (sets_each names have)
      ∙ get_map set_of names (place_in names table) [] no_set there.0 ∙ ap set_of there.1

  module _ (query audit : List Name) (query_have : are_held tables query ≡ true) (audit_have : are_held tables audit ≡ true) where
    abbrev SameRows : Name → Type 0
    SameRows table = rows_named query (filter_map (rows_held tables) query) table ≡ rows_named audit (filter_map (rows_held tables) audit) table

    each_same : (common : List Name) → AllByRecursion (λ (table : Name). list_any (bytes_eq table) query ≡ true) common → AllByRecursion (λ (table : Name). list_any (bytes_eq table) audit ≡ true) common → AllByRecursion SameRows common
    each_same [] in_query in_audit = tt
    each_same (table ∷ common) in_query in_audit =
        (named_set query query_have table in_query.0 ∙ sym (named_set audit audit_have table in_audit.0), each_same common in_query.1 in_audit.1)

    -- both sides have the same rows, since both borrow from one list
    pub same_rows : HaveSameRows query (filter_map (rows_held tables) query) audit (filter_map (rows_held tables) audit)
    same_rows = All-from_recursion SameRows (common_tables query audit) (each_same (common_tables query audit) (common-in-query query audit) (common-in-audit query audit))

-- ---- a held table of a history
pub record HeldTable (tables : List HeldLives) (number : ℕ) (history : History) (table : Name) : Type 0 where
  pub schema : Schema
  pub schema_is : schema_held tables table ≡ Some schema
  pub rows_are : rows_held tables table ≡ Some (kept_at schema (take number history))
  pub there : schema_at history table ≡ Some schema
  pub named : schema.name ≡ table

module _ (number : ℕ) (history : History) (valid : is_valid meaning history ≡ true) (table : Name) where
  found_fits : (tables : List HeldLives) → AllByRecursion (λ (lives : HeldLives). LivesFit lives history) tables → (lives : HeldLives) → lives_of tables table ≡ Some lives → (bytes_eq lives.schema.name table ≡ true) × LivesFit lives history
  found_fits [] fits lives is = absurd (none-some lives is)
  found_fits (first ∷ rest) fits lives is =
      elim (bytes_eq first.schema.name table) as (λ same. bytes_eq first.schema.name table ≡ same → cond same (Some first) (lives_of rest table) ≡ Some lives → (bytes_eq lives.schema.name table ≡ true) × LivesFit lives history) [
        | true ↦ λ same is.
            subst (λ (l : HeldLives). (bytes_eq l.schema.name table ≡ true) × LivesFit l history) (same_Some first lives is) (same, fits.0)
        | false ↦ λ same is. found_fits rest fits.1 lives is
      ] refl is

  held_as : (tables : List HeldLives) → TablesFit tables history → (found : Option HeldLives) → lives_of tables table ≡ found → option_map (λ (lives : HeldLives). lives.versions.place) found ≡ Some number → HeldTable tables number history table
  held_as tables fits None is place = absurd (none-some number place)
  held_as tables fits (Some lives) is place =
      let its = found_fits tables fits.each lives is in
      let named : lives.schema.name ≡ table = (bytes_eq-Decides lives.schema.name table).0 its.0 in
      let rows = (LivesAreThoseOf-fits meaning lives history valid its.1).rows in
      record {
        schema = lives.schema;
        schema_is = ap (option_map (λ (l : HeldLives). l.schema)) is;
        rows_are = ap (option_map (λ (l : HeldLives). l.versions.rows)) is ∙ ap Some (rows ∙ ap (λ n. kept_at lives.schema (take n history)) (same_Some lives.versions.place number place));
        there = ap (schema_at history) (sym named) ∙ its.1.created;
        named = named;
      }

  -- held tables at a place have the history's rows there
  held_table : (tables : List HeldLives) → TablesFit tables history → place_held tables table ≡ Some number → HeldTable tables number history table
  held_table tables fits place = held_as tables fits (lives_of tables table) refl place

module _ (tables : List HeldLives) (number : ℕ) (history : History) (valid : is_valid meaning history ≡ true) where
  abbrev front : History
  front = take number history

  -- a table that has rows is created
  created_by : (table : Name) (held : HeldTable tables number history table) → (found : Option Schema) → schema_at front table ≡ found → nat_lt 0 (length (kept_at held.schema front).rows) ≡ true → schema_at front table ≡ Some held.schema
  created_by table held None is some =
      absurd (false≢true (ap (λ (rows : List BornRow). nat_lt 0 (length rows)) (sym (no_rows_yet front (front_valid history number valid) table held.schema held.named is)) ∙ some))
  created_by table held (Some schema) is some =
      is ∙ sym (lasting history number valid table schema is) ∙ held.there

  created_with_rows : (table : Name) (held : HeldTable tables number history table) → has_some (rows_held tables table) ≡ true → schema_at front table ≡ Some held.schema
  created_with_rows table held some = created_by table held (schema_at front table) refl (sym (ap has_some held.rows_are) ∙ some)

  pub record StandsSo (table : Name) : Type 0 where
    pub held : HeldTable tables number history table
    pub at : schema_at front table ≡ Some held.schema

  pub stand_so : TablesFit tables history → (names : List Name) → AreHeldAt number names tables → are_held tables names ≡ true → AllByRecursion StandsSo names
  stand_so fits [] held have = tt
  stand_so fits (name ∷ names) held have =
      let both = and_parts (has_some (rows_held tables name)) (are_held tables names) have in
      let its = held_table number history valid name tables fits held.0 in
      (record { held = its; at = created_with_rows name its both.0 }, stand_so fits names held.1 both.1)

  pub sets_are : (names : List Name) → AllByRecursion StandsSo names → filter_map (rows_held tables) names ≡ sets_at front names
  sets_are [] all = refl
  sets_are (name ∷ names) all =
      let rest = sets_are names all.1 in
      (λ i. cons_option (all.0.held.rows_are i) (rest i))
      ∙ sym (λ i. option_map_or (λ (schema : Schema). kept_at schema front) (all.0.at i) no_set ∷ sets_at front names)

  pub schemas_are : (names : List Name) → AllByRecursion StandsSo names → map (schema_at front) names ≡ map Some (filter_map (schema_held tables) names)
  schemas_are [] all = refl
  schemas_are (name ∷ names) all =
      let rest = schemas_are names all.1 in
      (λ i. all.0.at i ∷ rest i)
      ∙ sym (λ i. map Some (cons_option (all.0.held.schema_is i) (filter_map (schema_held tables) names)))

-- ---- empty tables share nothing
product_none : {A : Type 0} (first : List A) (rest : List (List A)) → product rest ≡ [] → product (first ∷ rest) ≡ []
product_none first rest none = flat_map_none (λ member. map (λ others. member ∷ others) (product rest)) (λ member. ap (map (λ others. member ∷ others)) none) first

formed_none : (form : Form) → rows_by_form form [] ≡ []
formed_none Plain = refl
formed_none Distinct = refl
formed_none (Grouped shape) = refl

module _ (tables : List HeldLives) (number : ℕ) (history : History) (valid : is_valid meaning history ≡ true) (fits : TablesFit tables history)
    (rows_in : Name → List ShownRow)
    (empty : (table : Name) (schema : Schema) → schema.name ≡ table → (found : Option Schema) → schema_at (take number history) table ≡ found → (found ≡ None) ⊎ (found ≡ Some schema) → (kept_at schema (take number history)).rows ≡ [] → rows_in table ≡ []) where
  either : (table : Name) (schema : Schema) → schema_at history table ≡ Some schema → (found : Option Schema) → schema_at (take number history) table ≡ found → (found ≡ None) ⊎ (found ≡ Some schema)
  either table schema there None is = inl refl
  either table schema there (Some other) is = inr (sym (lasting history number valid table other is) ∙ there)

  none_here : (table : Name) → place_held tables table ≡ Some number → has_some (rows_held tables table) ≡ false → rows_in table ≡ []
  none_here table place none =
      let its = held_table number history valid table tables fits place in
      empty table its.schema its.named (schema_at (take number history) table) refl (either table its.schema its.there (schema_at (take number history) table) refl)
      (no_length (kept_at its.schema (take number history)).rows (sym (ap has_some its.rows_are) ∙ none))

  none_of_all : (names : List Name) → AreHeldAt number names tables → are_held tables names ≡ false → product (map rows_in names) ≡ []
  none_of_all [] held none = absurd (false≢true (sym none))
  none_of_all (name ∷ names) held none =
      elim (has_some (rows_held tables name)) as (λ here. has_some (rows_held tables name) ≡ here → (here && are_held tables names) ≡ false → product (rows_in name ∷ map rows_in names) ≡ []) [
        | true ↦ λ is none. product_none (rows_in name) (map rows_in names) (none_of_all names held.1 none)
        | false ↦ λ is none. ap (λ (rows : List ShownRow). flat_map (λ member. map (λ others. member ∷ others) (product (map rows_in names))) rows) (none_here name held.0 is)
      ] refl none

module _ (tables : List HeldLives) (number : ℕ) (history : History) (valid : is_valid meaning history ≡ true) (fits : TablesFit tables history) (context : Context) (query : Query) (audit : Audit) where
  abbrev before : History
  before = take number history

  unmasked_empty : (table : Name) (schema : Schema) → schema.name ≡ table → (found : Option Schema) → schema_at before table ≡ found → (found ≡ None) ⊎ (found ≡ Some schema) → (kept_at schema before).rows ≡ [] → unmasked_at before table ≡ []
  unmasked_empty table schema named found is (inl none) rows = rw (is ∙ none) refl
  unmasked_empty table schema named found is (inr some) rows = rw (is ∙ some, rows) refl

  view_empty : (table : Name) (schema : Schema) → schema.name ≡ table → (found : Option Schema) → schema_at before table ≡ found → (found ≡ None) ⊎ (found ≡ Some schema) → (kept_at schema before).rows ≡ [] → view_at before context table ≡ []
  view_empty table schema named found is (inl none) rows = rw (is ∙ none) refl
  view_empty table schema named found is (inr some) rows = rw (is ∙ some, rows) refl

  query_unneeded : seen_combinations before context query ≡ [] → (tuple : List SharedRow) → query_needs before context query tuple ≡ false
  query_unneeded none tuple = ap (needs (query_answer query) (has_tuple before query.tables tuple)) none ∙ by query.form
    where
      by : (form : Form) → needs (λ combinations. rows_by_form form (answer_of query.items query.cond combinations)) (has_tuple before query.tables tuple) [] ≡ false
      by form = rw (formed_none form) refl

  no_query : (mine others shown : Bool) → mine ≡ false → (mine && others && shown) ≡ false
  no_query mine others shown is = rw is refl

  -- if a table of either side has no rows, nothing serves
  nothing_of_query : seen_combinations before context query ≡ [] → first_serving before context query audit ≡ None
  nothing_of_query none = find_none (serves before context query audit) (λ tuple. no_query (query_needs before context query tuple) (audit_needs before audit tuple) _ (query_unneeded none tuple)) _

  pub nothing_serves : AreHeldAt number audit.tables tables → AreHeldAt number query.tables tables → (are_held tables audit.tables && are_held tables query.tables) ≡ false → first_serving before context query audit ≡ None
  nothing_serves audit_held query_held lacks =
      elim (are_held tables audit.tables) as (λ have. are_held tables audit.tables ≡ have → (have && are_held tables query.tables) ≡ false → first_serving before context query audit ≡ None) [
        | true ↦ λ is lacks. nothing_of_query (none_of_all tables number history valid fits (view_at before context) view_empty query.tables query_held lacks)
        | false ↦ λ is lacks. nothing_of_audit before context query audit (none_of_all tables number history valid fits (unmasked_at before) unmasked_empty audit.tables audit_held is)
      ] refl lacks
