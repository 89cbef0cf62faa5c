-- What the checks guarantee of a rule.
use Rattle.std.proofs.Common.{◌≡◌, ℕ, ◌≤◌, Bool, true, false, ◌&&◌, List, [], length, Option, Some, None, refl, ap, ◌∙◌, arith}
use Rattle.std.specs.Prelude.{not, nat_le, nat_eq}
use Rattle.std.specs.List.{list_all}
use Rattle.std.specs.Option.{option_map_or}
use Rattle.std.proofs.lemmas.Bool.{and_parts, and_from, lt-ltb, leb-true}
use Rattle.hippo_values.specs.declared.names.Name.{Name}
use Rattle.hippo_values.specs.Limits.{retention_limit, column_limit}
use Rattle.hippo_model.specs.declared.name_fault.NameFault.TheVariants.{NoSubject}
use Rattle.hippo_model.specs.declared.schema.Column.{Column}
use Rattle.hippo_model.specs.declared.schema.Schema.{Schema}
use Rattle.hippo_model.specs.Histories.{schema_at}
use Rattle.hippo_model.specs.Keepable.{is_folded_name, is_short, columns_are_keepable, key_is_keepable, subject_is_keepable, schema_is_keepable, is_place, places_are_keepable, days_are_keepable}
use Rattle.hippo_model.specs.Terms.{History}
use Rattle.hippo_model.specs.Validity.{all_differ, has_columns, has_subject, item_fits, table_passes, days_fit}
use Rattle.hippo_typing_catalog.specs.Catalogs.{known_at}
use Rattle.hippo_typing_catalog.specs.ChangesRefused.{places_named, unknown_columns, unknown_item_if_any, rule_refused, rule_item_refused}
use Rattle.hippo_typing_catalog.specs.Refusals.{fault_if, repeated_names, unknown_item}
use Rattle.hippo_typing.specs.ResolutionLaws.{NamesAreThoseOf}
use Rattle.hippo_typing_laws.specs.Written.{has_members}
use Rattle.hippo_typing_laws.proofs.NameActs.{known_item}
use Rattle.hippo_typing_catalog.proofs.DifferLemmas.{names_differ}
use Rattle.hippo_typing_laws.proofs.PlaceLemmas.{length-places, places_within, places_differ, no_more_than, below_more}
use Rattle.hippo_typing_laws.proofs.RefusalLemmas.{none_of_both}

-- a table that can be stored has at most 64 columns
pub few_columns : (schema : Schema) → schema_is_keepable schema ≡ true → length schema.columns ≤ 64
few_columns schema kept =
    let keyed = (and_parts (is_folded_name schema.name && columns_are_keepable schema.columns && key_is_keepable schema.key) (subject_is_keepable schema.subject) kept).0 in
    let named = (and_parts (is_folded_name schema.name && columns_are_keepable schema.columns) (key_is_keepable schema.key) keyed).0 in
    let columns = (and_parts (is_folded_name schema.name) (columns_are_keepable schema.columns) named).1 in
    let short = (and_parts (is_short schema.columns) (list_all (λ (column : Column). is_folded_name column.name) schema.columns) columns).0 in
    leb-true (length schema.columns) 64 (and_parts (nat_le 1 (length schema.columns)) (nat_le (length schema.columns) column_limit) short).1

-- and at most 64 key columns
pub few_key : (schema : Schema) → schema_is_keepable schema ≡ true → length schema.key ≤ 64
few_key schema kept =
    let keyed = (and_parts (is_folded_name schema.name && columns_are_keepable schema.columns && key_is_keepable schema.key) (subject_is_keepable schema.subject) kept).0 in
    let key = (and_parts (is_folded_name schema.name && columns_are_keepable schema.columns) (key_is_keepable schema.key) keyed).1 in
    let short = (and_parts (is_short schema.key) (list_all is_place schema.key) key).0 in
    leb-true (length schema.key) 64 (and_parts (nat_le 1 (length schema.key)) (nat_le (length schema.key) column_limit) short).1

module _ (schema : Schema) (columns : List Name) (none : rule_refused columns schema ≡ []) where
  parts : (repeated_names columns ≡ []) × (unknown_columns schema columns ≡ [])
  parts = none_of_both (repeated_names columns) (unknown_columns schema columns) none

  differ : all_differ nat_eq (places_named schema columns) ≡ true
  differ = places_differ schema columns (names_differ columns parts.0)

  pub columns_there : has_members columns ≡ true → has_columns (places_named schema columns) schema ≡ true
  columns_there some =
      let count : length (places_named schema columns) ≡ length columns = length-places schema columns parts.1 in
      let one : 1 ≤ length columns = leb-true 1 (length columns) some in
      and_from _ _ (and_from _ _ (lt-ltb 0 (length (places_named schema columns)) (omega arith)) differ) (places_within schema columns)

  pub columns_kept : schema_is_keepable schema ≡ true → places_are_keepable (places_named schema columns) ≡ true
  columns_kept kept =
      let few = few_columns schema kept in
      let count = no_more_than (length schema.columns) (places_named schema columns) differ (places_within schema columns) in
      and_from _ _ (lt-ltb (length (places_named schema columns)) 256 (omega arith)) (below_more (length schema.columns) 256 (places_named schema columns) (omega arith) (places_within schema columns))

-- days within their limits can be stored
pub days_kept : (days : Option ℕ) → days_fit days ≡ true → days_are_keepable days ≡ true
days_kept None fit = refl
days_kept (Some days) fit =
    let few = leb-true days 36500 (and_parts (nat_le 1 days) (nat_le days retention_limit) fit).1 in
    lt-ltb days 4294967296 (omega arith)

module _ (history : History) (names : NamesAreThoseOf history) (table : Name) (schema : Schema) (found : schema_at history table ≡ Some schema) where
  -- a test that a table's schema passes
  pub table_so : (test : Schema → Bool) → test schema ≡ true → table_passes history test table ≡ true
  table_so test passes = ap (λ (found : Option Schema). option_map_or test found false) found ∙ passes

  pub item_there : (item : Option Name) → unknown_item_if_any (known_at history) item ≡ [] → rule_item_refused item schema ≡ [] → item_fits history table item ≡ true
  item_there None unknown refusal = refl
  item_there (Some item) unknown refusal =
      let known = known_item history names item (none_of_both (unknown_item (known_at history) item) [] unknown).0 in
      let subject : has_subject schema ≡ true = by (has_subject schema) refusal in
      and_from _ _ known (table_so has_subject subject)
    where
      by : (test : Bool) → fault_if (true && not test) (NoSubject schema.name) ≡ [] → test ≡ true
      by true none = refl
      by false none = absurd cc
