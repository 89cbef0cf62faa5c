-- The tuples without which a query's groups change, by the marks of the groups.
use Rattle.std.proofs.Common.{◌≡◌, Bool, true, false, not, ◌&&◌, List, [], ◌∷◌, map, length, refl, sym, ap, ◌∙◌}
use Rattle.std.specs.List.{All, AllByRecursion, list_any}
use Rattle.std.proofs.lemmas.Bool.{false≢true}
use Rattle.hippo_values.specs.declared.names.Name.{Name}
use Rattle.hippo_model.specs.declared.audit.SharedRow.{SharedRow}
use Rattle.hippo_model.specs.declared.query.Form.TheVariants.{Grouped}
use Rattle.hippo_model.specs.declared.query.Masked.{Masked}
use Rattle.hippo_model.specs.declared.query.Shape.{Shape}
use Rattle.hippo_model.specs.Terms.{Combination, ShownRow, Place}
use Rattle.hippo_model.specs.Answers.{product}
use Rattle.hippo_model.specs.Bags.{same_bag}
use Rattle.hippo_model.specs.Forms.{grouped_rows}
use Rattle.hippo_model.specs.Masking.{Choices}
use Rattle.hippo_tables_keyed.specs.RowSets.{KeyedRows, IsAscending, key_in}
use Rattle.hippo_eval.specs.Answering.{masked_rows}
use Rattle.hippo_eval.specs.Walks.{rows_of}
use Rattle.hippo_join_stages.specs.Finding.{has_places}
use Rattle.hippo_join_lookups.specs.Places.{in_range}
use Rattle.hippo_distinct.proofs.BagLemmas.{bag-from_same}
use Rattle.hippo_audit_search.specs.Candidates.{AreCandidates}
use Rattle.hippo_audit_search.specs.Marks.{row_places, same_places}
use Rattle.hippo_audit_search.specs.Needs.{needs_by}
use Rattle.hippo_audit_common.specs.Commons.{common_tables, place_in}
use Rattle.hippo_audit_search.specs.Sharing.{rows_named, HaveSameRows, has_tuple_in}
use Rattle.hippo_audit_search.specs.Tuples.{tuple_at}
use Rattle.hippo_audit_search.proofs.CandidateLemmas.{all_told}
use Rattle.hippo_audit_search.proofs.MarkLemmas.{same-exact}
use Rattle.hippo_audit_needs.specs.declared.marking.MarkedGroups.{MarkedGroups}
use Rattle.hippo_audit_needs.specs.GroupMarks.{placed_rows, changes_without, AreMarkedGroups}
use Rattle.hippo_audit_needs.proofs.MarksTheorem.{filter-all, query-changes}

each-of : {A : Type 0} {P Q : A → Type 0} → ((item : A) → P item → Q item) → (items : List A) → AllByRecursion P items → AllByRecursion Q items
each-of so [] all = tt
each-of so (item ∷ items) all = (so item all.0, each-of so items all.1)

module _ (choices : Choices) (query : Masked) (shape : Shape) (audit : List Name) (query_sets audit_sets : List KeyedRows)
    (long_query : length query_sets ≡ length query.tables) (long_audit : length audit_sets ≡ length audit)
    (same : HaveSameRows query.tables query_sets audit audit_sets) (ascend : All (λ set. IsAscending (map (key_in set.key) set.rows)) audit_sets) where
  abbrev common : List Name
  common = common_tables query.tables audit

  abbrev tables : List Place
  tables = map (place_in query.tables) common

  abbrev sets : List KeyedRows
  sets = map (rows_named audit audit_sets) common

  abbrev tuple : List Place → List SharedRow
  tuple places = tuple_at audit audit_sets (map (place_in audit) common) places

  abbrev combinations : List Combination
  combinations = product (rows_of query_sets)

  abbrev needs : List SharedRow → Bool
  needs = needs_by choices query (Grouped shape) query_sets

  abbrev IsTold : Combination → Type 0
  IsTold rows = (in_range sets (row_places query_sets tables rows) ≡ true)
      × ((given : List Place) → in_range sets given ≡ true → has_tuple_in query.tables query_sets (tuple given) rows ≡ same_places (row_places query_sets tables rows) given)

  told : AllByRecursion IsTold combinations
  told = all_told query.tables audit query_sets audit_sets long_query long_audit same ascend

  module _ (groups : MarkedGroups) (are : AreMarkedGroups shape (placed_rows choices query query_sets tables combinations) groups) (places : List Place) where
    abbrev is_changed : Bool
    is_changed = list_any (changes_without places) groups.marks.items

    -- combinations with places that are in range are those that have the tuple of these places
    within : in_range sets places ≡ true → is_changed ≡ needs (tuple places)
    within in_sets =
        ap (list_any (changes_without places)) are.each
        ∙ query-changes places choices query query_sets tables (has_tuple_in query.tables query_sets (tuple places)) shape combinations (each-of (λ rows told. told.1 places in_sets) combinations told)

    -- if the places are not in range, no combination has them
    none : in_range sets places ≡ false → (rows : Combination) → IsTold rows → false ≡ same_places (row_places query_sets tables rows) places
    none out rows told = by (same_places (row_places query_sets tables rows) places) refl
      where
        by : (same : Bool) → same_places (row_places query_sets tables rows) places ≡ same → false ≡ same
        by false e = refl
        by true e =
            absurd (false≢true (sym out ∙ ap (in_range sets) (sym (same-exact (row_places query_sets tables rows) places e)) ∙ told.0))

    without : in_range sets places ≡ false → is_changed ≡ false
    without out =
        let all : List ShownRow = grouped_rows shape (masked_rows choices query combinations) in
        ap (list_any (changes_without places)) are.each
        ∙ query-changes places choices query query_sets tables (λ rows. false) shape combinations (each-of (none out) combinations told)
        ∙ ap (λ (left : List Combination). not (same_bag (grouped_rows shape (masked_rows choices query left)) all)) (filter-all combinations)
        ∙ ap not (bag-from_same all all (λ row. refl))

    says : is_changed ≡ (in_range sets places && needs (tuple places))
    says = by (in_range sets places) refl
      where
        by : (in_sets : Bool) → in_range sets places ≡ in_sets → is_changed ≡ (in_sets && needs (tuple places))
        by true e = within e
        by false e = without e

  -- the places that the marks give are those of the tuples that the query needs
  pub changing_are : (groups : MarkedGroups) → AreMarkedGroups shape (placed_rows choices query query_sets tables combinations) groups
      → (candidates : List (List Place)) → ((places : List Place) → has_places places candidates ≡ list_any (changes_without places) groups.marks.items)
      → AreCandidates needs audit audit_sets common candidates
  changing_are groups are candidates given places = given places ∙ says groups are places
