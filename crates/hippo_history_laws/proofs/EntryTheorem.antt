-- The text of each entry of a valid history makes the entry again.
use Rattle.std.proofs.Common.{◌≡◌, ◌∙◌, ℕ, zero, suc, ◌<◌, ◌≤◌, Bool, true, false, not, ◌&&◌, List, [], ◌∷◌, ◌++◌, length, filter_map, Option, Some, None, refl, sym, ap, subst, arith}
use Rattle.std.specs.Prelude.{bytes_eq, count_by, is_none, is_some, nat_eq, nat_le, nat_lt, option_and_then, option_map, option_to_list, slice_get, unwrap_or}
use Rattle.std.specs.Bool.{then_some}
use Rattle.std.specs.Cmp.Lexicographic.{pointwise}
use Rattle.std.specs.List.{list_all, cons_option, range_with_len, zip}
use Rattle.std.specs.Option.{option_map_or}
use Rattle.std.proofs.lemmas.Bool.{and_from, and_parts, eq-eqb, le-ltb, lt-leb, lt-ltb, ltb-true, not-true, not_from_true}
use Rattle.hippo_values.specs.Limits.{column_limit, table_limit}
use Rattle.hippo_values.specs.declared.names.Name.{Name}
use Rattle.hippo_values.specs.Order.{same_cells}
use Rattle.hippo_model.specs.declared.entry.Act.{Act}
use Rattle.hippo_model.specs.declared.entry.Act.TheVariants.{Create, Insert, Update, Delete, Purpose, Recipient, Item, Authorize, Deauthorize, Allow, Revoke, Choice, Asked}
use Rattle.hippo_model.specs.declared.entry.Entry.{Entry}
use Rattle.hippo_model.specs.declared.entry.ItemKind.TheVariants.{OptIn, OptOut}
use Rattle.hippo_model.specs.declared.name_fault.NameFault.{NameFault}
use Rattle.hippo_model.specs.declared.name_fault.NameFault.TheVariants.{AlreadyThere, NoSubject, TooManyParts, TypeMismatch, UnknownItem, UnknownPurpose, UnknownRecipient, UnknownTable, WrongCount}
use Rattle.hippo_model.specs.declared.schema.Column.{Column}
use Rattle.hippo_model.specs.declared.schema.Schema.{Schema}
use Rattle.hippo_model.specs.Histories.{item_at, last_word, schema_at}
use Rattle.hippo_model.specs.Keepable.{act_is_keepable, cells_are_keepable, days_are_keepable, has_count, is_folded_name, item_is_keepable, places_are_keepable, rule_is_keepable, value_is_keepable}
use Rattle.hippo_model.specs.Rows.{key_of, last_at, names_key, row_at, row_left}
use Rattle.hippo_model.specs.Terms.{History, Key, Meaning, Place, Row}
use Rattle.hippo_model.specs.Validity.{all_differ, column_passes, create_fits, creates_table, days_fit, has_columns, has_subject, is_acceptable, is_integer, is_purpose, is_recipient, is_valid, is_well_formed, item_fits, key_column_fits, pair_exists, rule_fits, subject_column_fits, table_passes}
use Rattle.hippo_model.specs.Values.{fits}
use Rattle.hippo_model.specs.Versions.{is_live, key_fits, row_fits, version_fits}
use Rattle.hippo_tables_keyed.proofs.Orders.{same_exact}
use Rattle.hippo_model_laws.proofs.ValidFronts.{entries_before, front_is_valid}
use Rattle.hippo_typing_catalog.specs.Catalogs.{KnownNames, known_at, table_of}
use Rattle.hippo_typing_catalog.specs.ChangesRefused.{count_refused, create_refused, delete_refused, in_table, insert_refused, rule_item_refused, kind_refused, null_refused, rule_refused, subject_refused, text_refused, unknown_columns, unknown_item_if_any, update_refused}
use Rattle.hippo_typing_catalog.specs.Refusals.{fault_if, unknown_item, unknown_pair, unknown_table}
use Rattle.hippo_tables.specs.Finished.{live_number, live_row}
use Rattle.hippo_history_statements.specs.Telling.{is_set, name_at, schema_before, set_places, table_named}
use Rattle.hippo_typing.specs.ResolutionLaws.{NamesAreThoseOf}
use Rattle.hippo_typing.proofs.CatalogTheorem.{valid_names}
use Rattle.hippo_typing_laws.proofs.HistoryLemmas.{acceptable, followed, keepable, passes_so, rows_fit, said_where, schema_kept}
use Rattle.hippo_history_laws.specs.TellingLaws.{EntriesAreMadeAgain, MakesAgain, NamesColumns, Replaces, is_stated}
use Rattle.hippo_history_laws.proofs.ChangeTheorem.{sets_within, updates_read_back}
use Rattle.hippo_history_laws.proofs.KeyTheorem.{deletes_read_back}
use Rattle.hippo_history_laws.proofs.NamePlaces.{all_within, column_names}
use Rattle.hippo_history_laws.proofs.ReadingTheorem.{names_read_back}
use Rattle.hippo_history_laws.proofs.RowTheorem.{inserts_read_back}
use Rattle.hippo_history_laws.proofs.RuleParts.{allow-fits, allow-kept, names-kept, rule-fits}
use Rattle.hippo_history_laws.proofs.RuleTheorem.{allows_read_back, revokes_read_back}
use Rattle.hippo_history_laws.proofs.TableTheorem.{HasNames, IsTable, all_there, creates_read_back, draft, has-names, is_table, key_names, subject_name, there}
use Rattle.hippo_history_laws.proofs.UnrefusedLemmas.{all_kept, are_assigned, assignments_none, both_assigned, cells_fit, column_there, differ_kept, in_column_none, kinds_passed, names_at, none-repeated, none_and, none_of_key, none_unknown, none_unknown_in, not_repeated, nulls_passed, range_differs, refused_not, row_none, texts_passed, the_key}

-- lists that fit place by place have the same length
pointwise_size : (columns : List Column) (row : Row) → pointwise fits columns row ≡ true
    → length row ≡ length columns
pointwise_size [] [] fit = refl
pointwise_size [] (value ∷ row) fit = absurd cc
pointwise_size (column ∷ columns) [] fit = absurd cc
pointwise_size (column ∷ columns) (value ∷ row) fit =
    ap suc (pointwise_size columns row
    (and_parts (fits column value) (pointwise fits columns row) fit).1)

-- there are as many columns at these places as places
found_there : (columns : List Column) (place : Place) → nat_lt place (length columns) ≡ true
    → is_some (slice_get columns place) ≡ true
found_there [] place small =
    absurd (let less : place < 0 = ltb-true place 0 small in omega (arith, less))
found_there (column ∷ columns) zero small = refl
found_there (column ∷ columns) (suc place) small =
    found_there columns place
    (let less : suc place < suc (length columns) = ltb-true (suc place) (suc (length columns))
    small in lt-ltb place (length columns) (omega (arith, less)))

one_more : (found : Option Column) (columns : List Column) → is_some found ≡ true
    → length (cons_option found columns) ≡ suc (length columns)
one_more None columns is = absurd cc
one_more (Some column) columns is = refl

columns_found : (columns : List Column) (places : List Place) → all_within columns places ≡ true
    → length (filter_map (slice_get columns) places) ≡ length places
columns_found columns [] within = refl
columns_found columns (place ∷ places) within =
    let parts = and_parts (nat_lt place (length columns)) (all_within columns places) within in
    one_more (slice_get columns place) (filter_map (slice_get columns) places)
    (found_there columns place parts.0) ∙ ap suc (columns_found columns places parts.1)

-- a row that exists has the key
named_key : (test : Bool) (named key : Key) → option_map_or (λ named. same_cells named key)
    (then_some test named) false ≡ true → same_cells named key ≡ true
named_key true named key e = e
named_key false named key e = absurd cc

key_left : (schema : Schema) (key row : Row) (act : Act) → row_left act ≡ Some row
    → names_key schema key act ≡ true → key_of schema.key row ≡ key
key_left schema key row (Insert table left) leaves names =
    let same : left ≡ row = cc in
    subst (λ (r : Row). key_of schema.key r ≡ key) same
    (same_exact _ _ (named_key (bytes_eq table schema.name) (key_of schema.key left) key names))
key_left schema key row (Update table left) leaves names =
    let same : left ≡ row = cc in
    subst (λ (r : Row). key_of schema.key r ≡ key) same
    (same_exact _ _ (named_key (bytes_eq table schema.name) (key_of schema.key left) key names))
key_left schema key row act leaves names = absurd cc

left_parts : (test : Bool) (left : Option Row) (row : Row) → then_some test left ≡ Some (Some row)
    → (test ≡ true) × (left ≡ Some row)
left_parts true left row e = (refl, cc)
left_parts false left row e = absurd cc

flat : (word : Option (Option Row)) (row : Row) → option_and_then (λ left. left) word ≡ Some row
    → word ≡ Some (Some row)
flat None row e = absurd cc
flat (Some left) row e = ap Some e

key_had : (schema : Schema) (history : History) (key row : Row) → row_at schema history key
    ≡ Some row → key_of schema.key row ≡ key
key_had schema history key row live =
    let word : Entry → Option (Option Row) =
    λ entry. then_some (names_key schema key entry.act) (row_left entry.act) in
    let said = said_where word history (Some row) (flat (last_word word history) row live) in
    let parts =
    left_parts (names_key schema key said.entry.act) (row_left said.entry.act) row said.says in
    key_left schema key row said.entry.act parts.1 parts.0

-- what exists, and what does not
record IsThere (found : Option Row) : Type 0 where
  row : Row
  is : found ≡ Some row

there_so : (found : Option Row) → is_some found ≡ true → IsThere found
there_so None is = absurd cc
there_so (Some row) is = record { row = row; is = refl }

none_so : (found : Option Row) → not (is_some found) ≡ true → found ≡ None
none_so None is = refl
none_so (Some row) is = absurd cc

none_some : {A : Type 0} (found : Option A) → is_none found ≡ true → is_some found ≡ false
none_some None none = refl
none_some (Some x) none = absurd cc

some_none : {A : Type 0} (found : Option A) → is_some found ≡ true → is_none found ≡ false
some_none None some = absurd cc
some_none (Some x) some = refl

module _ (meaning : Meaning) (before : History) (valid : is_valid meaning before ≡ true) where
  abbrev known : KnownNames
  known = known_at before

  names : NamesAreThoseOf before
  names = valid_names meaning before valid

  pair-known : (purpose recipient : Name) → pair_exists before purpose recipient ≡ true
      → unknown_pair known purpose recipient ≡ []
  pair-known purpose recipient exist =
      let parts = and_parts (is_purpose before purpose) (is_recipient before recipient) exist in
      none_and (refused_not _ (UnknownPurpose purpose) (ap not (names.purposes purpose)
      ∙ not_from_true _ parts.0))
      (refused_not _ (UnknownRecipient recipient) (ap not (names.recipients recipient)
      ∙ not_from_true _ parts.1))

  item-known : (item : Name) → is_some (item_at before item) ≡ true → unknown_item known item ≡ []
  item-known item exists =
      refused_not _ (UnknownItem item) (ap is_none (names.items item)
      ∙ some_none (item_at before item) exists)

  -- the table of an act, and its schema
  module _ (table : Name) (schema : Schema) (is : schema_at before table ≡ Some schema) where
    pub sound : IsTable schema
    sound = is_table schema (schema_kept meaning before table schema valid is).1

    pub has : HasNames schema.name schema.columns schema.key schema.subject
    has = has-names schema sound (schema_kept meaning before table schema valid is).0

    known-here : table_of known table ≡ Some schema
    known-here = names.tables table ∙ is

    table-known : unknown_table known table ≡ []
    table-known = refused_not _ (UnknownTable table) (ap is_none known-here)

    none-in_table : (refusals : Schema → List NameFault) → refusals schema ≡ []
        → in_table known table refusals ≡ []
    none-in_table refusals none =
        ap (λ (found : Option Schema). option_map_or refusals found []) known-here ∙ none

    columns-named : (places : List Place) → 0 < length places → all_within schema.columns places
        ≡ true → NamesColumns before schema table places
    columns-named places some within = record {
      known = known-here;
      differ = sound.differ;
      columns_named = has.columns_fit;
      some = some;
      within = within;
    }

    pub key-within : all_within schema.columns schema.key ≡ true
    key-within = all_there key_column_fits schema schema.key sound.key_fits

    key-named : NamesColumns before schema table schema.key
    key-named = columns-named schema.key has.some_key key-within

    live-there : (key row : Row) → row_at schema before key ≡ Some row → live_row before table key
        ≡ Some row
    live-there key row live =
        ap (option_and_then (λ (known : Schema). row_at known before key)) is ∙ live

    free-there : (key : Row) → row_at schema before key ≡ None → live_number before table key ≡ None
    free-there key none =
        ap (option_and_then
        (λ (known : Schema). option_map (λ (row : Row). unwrap_or (last_at known before key) 0)
        (row_at known before key))) is
        ∙ ap (option_map (λ (row : Row). unwrap_or (last_at schema before key) 0)) none

    insert-again : (row : Row) → act_is_keepable (Insert table row) ≡ true
        → version_fits schema before (Insert table row) ≡ true
        → MakesAgain before (Some schema) (Insert table row)
    insert-again row kept fit =
        let outer =
        and_parts (bytes_eq table schema.name && row_fits schema row)
        (not (is_live schema before (key_of schema.key row))) fit in
        let fitting = (and_parts (bytes_eq table schema.name) (row_fits schema row) outer.0).1 in
        let size = pointwise_size schema.columns row fitting in
        let some = has.some in
        let parts = and_parts (is_folded_name table) (cells_are_keepable row) kept in
        let counted : count_refused schema row ≡ [] =
        refused_not _ (WrongCount (length schema.columns))
        (not_from_true _ (eq-eqb (length row) (length schema.columns) size)) in
        let passed : insert_refused row schema ≡ [] =
        none_and (none_and
        (none_and counted (row_none kind_refused kinds_passed schema.columns row fitting))
        (row_none null_refused nulls_passed schema.columns row fitting))
        (row_none text_refused texts_passed schema.columns row fitting) in
        record {
          back = inserts_read_back before schema table row known-here
              (free-there (key_of schema.key row)
              (none_so (row_at schema before (key_of schema.key row)) outer.1)) parts.0
              (omega (arith, size, some))
              (and_parts (has_count row) (list_all value_is_keepable row) parts.1).1;
          unrefused = none_and table-known (none-in_table (insert_refused row) passed);
        }

    update-again : (row : Row) → act_is_keepable (Update table row) ≡ true
        → version_fits schema before (Update table row) ≡ true
        → is_stated (Some schema) (Update table row) ≡ true
        → MakesAgain before (Some schema) (Update table row)
    update-again row kept fit stated =
        let key : Key = key_of schema.key row in
        let outer =
        and_parts (bytes_eq table schema.name && row_fits schema row) (is_live schema before key)
        fit in
        let fitting = (and_parts (bytes_eq table schema.name) (row_fits schema row) outer.0).1 in
        let size = pointwise_size schema.columns row fitting in
        let parts = and_parts (is_folded_name table) (cells_are_keepable row) kept in
        let old = there_so (row_at schema before key) outer.1 in
        let old_kept = rows_fit meaning before table schema key old.row valid is old.is in
        let replaced : Replaces before schema table row old.row = record {
          live = live-there key old.row old.is;
          same = key_had schema before key old.row old.is;
          size = size;
          old_size = pointwise_size schema.columns old.row old_kept.fits;
        } in
        let sets : List Place = set_places schema.columns schema.key in
        let within = sets_within schema.columns schema.key in
        let apart =
        differ_kept (is_set schema.key) (range_with_len 0 (length schema.columns))
        (range_differs 0 (length schema.columns)) in
        let set = are_assigned schema sound.differ sets (key_of sets row) within
        (cells_fit schema.columns row fitting sets within) in
        let keyed =
        are_assigned schema sound.differ schema.key key key-within
        (cells_fit schema.columns row fitting schema.key key-within) in
        let set_names : List Name = names_at schema sound.differ sets in
        let key_names : List Name = names_at schema sound.differ schema.key in
        let passed : update_refused set_names (key_of sets row) key_names key schema ≡ [] =
        none_and (none_and (none_and (none_and (none_and
        (not_repeated schema sound.differ sets within apart)
        (not_repeated schema sound.differ schema.key key-within sound.key_differ))
        (none_unknown_in schema sound.differ set_names key_names
        (none_unknown schema sound.differ sets within)
        (none_unknown schema sound.differ schema.key key-within)))
        (the_key schema sound.differ key-within))
        (none_of_key schema sound.differ sets within
        (all_kept (is_set schema.key) (range_with_len 0 (length schema.columns)))))
        (assignments_none schema sound.differ (zip set_names (key_of sets row) ++ zip key_names key)
        (both_assigned schema sound.differ (zip set_names (key_of sets row)) (zip key_names key) set
        keyed)) in
        record {
          back = updates_read_back before schema table row old.row key-named sound.key_differ
              (ltb-true 0 (length (set_places schema.columns schema.key)) stated) parts.0
              (and_parts (has_count row) (list_all value_is_keepable row) parts.1).1 replaced;
          unrefused =
              none_and table-known
              (none-in_table (update_refused set_names (key_of sets row) key_names key) passed);
        }

    delete-again : (key : Key) → act_is_keepable (Delete table key) ≡ true
        → version_fits schema before (Delete table key) ≡ true
        → MakesAgain before (Some schema) (Delete table key)
    delete-again key kept fit =
        let outer =
        and_parts (bytes_eq table schema.name && key_fits schema key) (is_live schema before key)
        fit in
        let fitting = (and_parts (bytes_eq table schema.name) (key_fits schema key) outer.0).1 in
        let size = pointwise_size (filter_map (slice_get schema.columns) schema.key) key fitting in
        let parts = and_parts (is_folded_name table) (cells_are_keepable key) kept in
        let old = there_so (row_at schema before key) outer.1 in
        let keyed = are_assigned schema sound.differ schema.key key key-within fitting in
        let key_names : List Name = names_at schema sound.differ schema.key in
        let passed : delete_refused key_names key schema ≡ [] =
        none_and (none_and
        (none_and (not_repeated schema sound.differ schema.key key-within sound.key_differ)
        (none_unknown schema sound.differ schema.key key-within))
        (the_key schema sound.differ key-within))
        (assignments_none schema sound.differ (zip key_names key) keyed) in
        record {
          back = deletes_read_back before schema table key old.row key-named sound.key_differ
              parts.0 (sym (size ∙ columns_found schema.columns schema.key key-within))
              (and_parts (has_count key) (list_all value_is_keepable key) parts.1).1
              (live-there key old.row old.is);
          unrefused = none_and table-known (none-in_table (delete_refused key_names key) passed);
        }

    places-named : (places : List Place) → has_columns places schema ≡ true
        → NamesColumns before schema table places
    places-named places are =
        let outer =
        and_parts (nat_lt 0 (length places) && all_differ nat_eq places)
        (all_within schema.columns places) are in
        let first = and_parts (nat_lt 0 (length places)) (all_differ nat_eq places) outer.0 in
        columns-named places (ltb-true 0 (length places) first.0) outer.1

    -- nothing in a rule's columns is refused
    rule-passes : (places : List Place) → has_columns places schema ≡ true
        → rule_refused (names_at schema sound.differ places) schema ≡ []
    rule-passes places are =
        let outer =
        and_parts (nat_lt 0 (length places) && all_differ nat_eq places)
        (all_within schema.columns places) are in
        let first = and_parts (nat_lt 0 (length places)) (all_differ nat_eq places) outer.0 in
        none_and (not_repeated schema sound.differ places outer.1 first.1)
        (none_unknown schema sound.differ places outer.1)

    item-passes : (item : Option Name) → item_fits before table item ≡ true
        → rule_item_refused item schema ≡ []
    item-passes None fit = refl
    item-passes (Some item) fit =
        let named =
        (and_parts (is_some (item_at before item)) (table_passes before has_subject table) fit).1 in
        let subject : has_subject schema ≡ true =
        sym (ap (λ (found : Option Schema). option_map_or has_subject found false) is) ∙ named in
        refused_not _ (NoSubject schema.name) (not_from_true _ subject)

  items-known : (table : Name) (item : Option Name) → item_fits before table item ≡ true
      → unknown_item_if_any known item ≡ []
  items-known table None fit = refl
  items-known table (Some item) fit =
      none_and (item-known item
      (and_parts (is_some (item_at before item)) (table_passes before has_subject table) fit).0)
      refl

  -- a table that is created
  module _ (schema : Schema) (sound : IsTable schema) where
    subject-known : (place : Option Place)
        → option_map_or (column_passes subject_column_fits schema) place true ≡ true
        → unknown_columns (draft schema sound)
        (option_to_list (option_map (name_at schema.columns) place)) ≡ []
    subject-known None fit = refl
    subject-known (Some place) fit =
        let small =
        lt-ltb place (length schema.columns) (there subject_column_fits schema.columns place fit) in
        none_unknown (draft schema sound) sound.differ (place ∷ []) (and_from _ _ small refl)

    subject-passes : (place : Option Place)
        → option_map_or (column_passes subject_column_fits schema) place true ≡ true
        → subject_refused (draft schema sound) (option_map (name_at schema.columns) place) ≡ []
    subject-passes None fit = refl
    subject-passes (Some place) fit =
        let small = there subject_column_fits schema.columns place fit in
        let found = column_there schema.columns place small in
        let passes : subject_column_fits found.column ≡ true =
        sym (ap (λ (c : Option Column). option_map_or subject_column_fits c false) found.at)
        ∙ fit in
        let integer = (and_parts found.column.not_null (is_integer found.column.kind) passes).1 in
        none_and (in_column_none (draft schema sound) sound.differ place found.column
        (λ (column : Column). fault_if (not (is_integer column.kind)) TypeMismatch) small found.at
        (refused_not _ TypeMismatch (not_from_true _ integer))) refl

    create-passes : create_fits before schema ≡ true → length schema.columns ≤ 64
        → create_refused known schema.name schema.columns (key_names schema sound)
        (subject_name schema sound) ≡ []
    create-passes fit few =
        let first =
        (and_parts (nat_lt (count_by (λ (entry : Entry). creates_table entry.act) before)
        table_limit && is_none (schema_at before schema.name)) (is_well_formed schema) fit).0 in
        let parts =
        and_parts (nat_lt (count_by (λ (entry : Entry). creates_table entry.act) before)
        table_limit) (is_none (schema_at before schema.name)) first in
        let within = all_there key_column_fits schema schema.key sound.key_fits in
        let counted : nat_le table_limit (length known.tables) ≡ false =
        subst (λ (n : ℕ). nat_le table_limit n ≡ false) (sym names.count)
        (lt-leb table_limit _ (ltb-true _ _ parts.0)) in
        let new : is_some (table_of known schema.name) ≡ false =
        ap is_some (names.tables schema.name) ∙ none_some (schema_at before schema.name) parts.1 in
        none_and (none_and (none_and (none_and (none_and
        (none-repeated (column_names schema.columns) sound.differ)
        (not_repeated (draft schema sound) sound.differ schema.key within sound.key_differ))
        (none_unknown_in (draft schema sound) sound.differ (key_names schema sound)
        (option_to_list (subject_name schema sound))
        (none_unknown (draft schema sound) sound.differ schema.key within)
        (subject-known schema.subject sound.subject_fits)))
        (subject-passes schema.subject sound.subject_fits))
        (none_and (refused_not _ (TooManyParts column_limit)
        (le-ltb column_limit (length schema.columns) few))
        (refused_not _ (TooManyParts table_limit) counted)))
        (refused_not _ (AlreadyThere schema.name) new)

  abbrev schema_for : Act → Option Schema
  schema_for act = option_and_then (schema_at before) (table_named act)

  act-again : (act : Act) → act_is_keepable act ≡ true → is_acceptable meaning before act ≡ true
      → is_stated (schema_for act) act ≡ true → MakesAgain before (schema_for act) act
  act-again (Create schema) kept fit stated =
      let formed : is_well_formed schema ≡ true = (and_parts _ (is_well_formed schema) fit).1 in
      let sound = is_table schema formed in
      let few = (has-names schema sound kept).few in
      record {
        back = creates_read_back before None schema kept formed;
        unrefused =
            create-passes schema sound fit few;
      }
  act-again (Insert table row) kept fit stated =
      let made = passes_so (λ (schema : Schema). version_fits schema before (Insert table row))
      (schema_at before table) fit in
      subst (λ (s : Option Schema). MakesAgain before s (Insert table row)) (sym made.is)
      (insert-again table made.what made.is row kept made.fits)
  act-again (Update table row) kept fit stated =
      let made = passes_so (λ (schema : Schema). version_fits schema before (Update table row))
      (schema_at before table) fit in
      subst (λ (s : Option Schema). is_stated s (Update table row) ≡ true
      → MakesAgain before s (Update table row)) (sym made.is)
      (update-again table made.what made.is row kept made.fits) stated
  act-again (Delete table key) kept fit stated =
      let made = passes_so (λ (schema : Schema). version_fits schema before (Delete table key))
      (schema_at before table) fit in
      subst (λ (s : Option Schema). MakesAgain before s (Delete table key)) (sym made.is)
      (delete-again table made.what made.is key kept made.fits)
  act-again (Allow purpose recipient table places item days) kept fit stated =
      let may = allow-fits purpose recipient table places item days before fit in
      let able = allow-kept purpose recipient table places item days kept in
      let made = passes_so (has_columns places) (schema_at before table) may.rule.passes in
      subst (λ (s : Option Schema). MakesAgain before s
      (Allow purpose recipient table places item days)) (sym made.is)
      (record {
        back = allows_read_back before made.what purpose recipient table places item days
            (places-named table made.what made.is places made.fits) able.names able.with_item may.with_days;
        unrefused =
            none_and (none_and
            (none_and (none_and (table-known table made.what made.is)
            (pair-known purpose recipient may.rule.pair)) (items-known table item may.with_item))
            (none-in_table table made.what made.is
            (rule_refused (names_at made.what (sound table made.what made.is).differ places))
            (rule-passes table made.what made.is places made.fits)))
            (none-in_table table made.what made.is (rule_item_refused item)
            (item-passes table made.what made.is item may.with_item));
      })
  act-again (Revoke purpose recipient table places) kept fit stated =
      let may = rule-fits purpose recipient table places before fit in
      let made = passes_so (has_columns places) (schema_at before table) may.passes in
      subst (λ (s : Option Schema). MakesAgain before s (Revoke purpose recipient table places))
      (sym made.is)
      (record {
        back = revokes_read_back before made.what purpose recipient table places
            (places-named table made.what made.is places made.fits)
            (names-kept purpose recipient table places kept);
        unrefused =
            none_and (none_and (table-known table made.what made.is)
            (pair-known purpose recipient may.pair))
            (none-in_table table made.what made.is
            (rule_refused (names_at made.what (sound table made.what made.is).differ places))
            (rule-passes table made.what made.is places made.fits));
      })
  act-again (Purpose purpose) kept fit stated = record {
    back = names_read_back before None (Purpose purpose) refl kept;
    unrefused = refused_not _ (AlreadyThere purpose) (names.purposes purpose ∙ not-true _ fit);
  }
  act-again (Recipient recipient) kept fit stated = record {
    back = names_read_back before None (Recipient recipient) refl kept;
    unrefused =
        refused_not _ (AlreadyThere recipient) (names.recipients recipient ∙ not-true _ fit);
  }
  act-again (Item item OptIn) kept fit stated = record {
    back = names_read_back before None (Item item OptIn) refl kept;
    unrefused =
        refused_not _ (AlreadyThere item) (ap is_some (names.items item)
        ∙ none_some (item_at before item) fit);
  }
  act-again (Item item OptOut) kept fit stated = record {
    back = names_read_back before None (Item item OptOut) refl kept;
    unrefused =
        refused_not _ (AlreadyThere item) (ap is_some (names.items item)
        ∙ none_some (item_at before item) fit);
  }
  act-again (Authorize user purpose recipient) kept fit stated = record {
    back = names_read_back before None (Authorize user purpose recipient) refl kept;
    unrefused = pair-known purpose recipient fit;
  }
  act-again (Deauthorize user purpose recipient) kept fit stated = record {
    back = names_read_back before None (Deauthorize user purpose recipient) refl kept;
    unrefused = pair-known purpose recipient fit;
  }
  act-again (Choice subject item true) kept fit stated = record {
    back = names_read_back before None (Choice subject item true) refl kept;
    unrefused = item-known item fit;
  }
  act-again (Choice subject item false) kept fit stated = record {
    back = names_read_back before None (Choice subject item false) refl kept;
    unrefused = item-known item fit;
  }
  act-again (Asked user purpose recipient text) kept fit stated = absurd cc

pub entries_are_made_again : EntriesAreMadeAgain
entries_are_made_again meaning before later entry valid stated =
    let may = followed meaning before entry later valid in
    let first = front_is_valid meaning before (entry ∷ later) valid in
    let same : schema_before (before ++ entry ∷ later) entry
    ≡ schema_for meaning before first entry.act =
    ap (λ (h : History). option_and_then (schema_at h) (table_named entry.act))
    (entries_before meaning before entry may later) in
    subst (λ (s : Option Schema). is_stated s entry.act ≡ true → MakesAgain before s entry.act)
    (sym same)
    (act-again meaning before first entry.act (keepable meaning before entry may)
    (acceptable meaning before entry may)) stated
