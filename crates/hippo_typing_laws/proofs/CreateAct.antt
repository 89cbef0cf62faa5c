-- What the checks guarantee of a table that is created.
use Rattle.std.proofs.Common.{◌≡◌, ℕ, ◌<◌, ◌≤◌, Bool, true, false, ◌&&◌, List, [], ◌∷◌, ◌++◌, map, length, Option, Some, None, refl, sym, ap, subst, ◌∙◌, arith}
use Rattle.std.specs.Prelude.{is_none, is_some, not, ◌||◌, nat_lt, nat_le, nat_eq, slice_get, option_map, option_and_then, option_to_list, bytes_eq}
use Rattle.std.specs.Cmp.Lexicographic.{nat_list_eq_equiv}
use Rattle.std.specs.List.{list_any, list_all, cons_option}
use Rattle.std.specs.Option.{option_map_or}
use Rattle.std.proofs.lemmas.Bool.{and_parts, and_from, or_left, or_right, lt-ltb, leb-true, leb-false, le-leb, ltb-false}
use Rattle.std.proofs.lemmas.List.{length-map}
use Rattle.std.proofs.lemmas.List.Concat.{flat_map-append}
use Rattle.std.proofs.lemmas.Option.{slice_get-map}
use Rattle.hippo_values.specs.Limits.{table_limit, column_limit}
use Rattle.hippo_values.specs.declared.names.Name.{Name}
use Rattle.hippo_model.specs.declared.name_fault.NameFault.{NameFault}
use Rattle.hippo_model.specs.declared.name_fault.NameFault.TheVariants.{UnknownColumn, TypeMismatch, TooManyParts, AlreadyThere}
use Rattle.hippo_model.specs.declared.schema.Column.{Column}
use Rattle.hippo_model.specs.declared.schema.Schema.{Schema}
use Rattle.hippo_model.specs.Keepable.{is_folded_name, columns_are_keepable, key_is_keepable, subject_is_keepable, schema_is_keepable}
use Rattle.hippo_model.specs.Terms.{History, Place}
use Rattle.hippo_model.specs.Validity.{all_differ, is_integer, column_passes, key_column_fits, subject_column_fits, is_well_formed, create_fits}
use Rattle.hippo_typing_catalog.specs.Catalogs.{known_at, table_of}
use Rattle.hippo_typing_catalog.specs.ChangesRefused.{places_named, column_named, keyless_table, unknown_columns, in_column, subject_refused, sizes_refused, known_name_refused, create_refused}
use Rattle.hippo_typing_catalog.specs.ChangesWanted.{with_not_null, table_made}
use Rattle.hippo_typing_catalog.specs.Refusals.{fault_if, repeated_names}
use Rattle.hippo_typing_catalog.specs.StatementLimits.{too_many}
use Rattle.hippo_typing_catalog.specs.WrittenColumns.{place_of}
use Rattle.hippo_typing.specs.ResolutionLaws.{NamesAreThoseOf}
use Rattle.hippo_typing_laws.specs.Written.{has_members, columns_written}
use Rattle.hippo_typing_catalog.proofs.DifferLemmas.{names_differ}
use Rattle.hippo_typing_laws.proofs.PlaceLemmas.{found_at, parted, length-places, places_within, places_differ, no_more_than, below_more}
use Rattle.hippo_typing_laws.proofs.RefusalLemmas.{none_of_both, not_refused, absent}

module _ (table : Name) (columns : List Column) (key : List Name) (subject : Option Name) where
  -- the columns keep their names
  names_stay : (some : List Column) → map (λ (column : Column). column.name) (map (with_not_null key subject) some) ≡ map (λ (column : Column). column.name) some
  names_stay [] = refl
  names_stay (column ∷ rest) = ap (λ (l : List Name). column.name ∷ l) (names_stay rest)

  folded_stay : (some : List Column) → list_all (λ (column : Column). is_folded_name column.name) (map (with_not_null key subject) some) ≡ list_all (λ (column : Column). is_folded_name column.name) some
  folded_stay [] = refl
  folded_stay (column ∷ rest) = ap (λ t. is_folded_name column.name && t) (folded_stay rest)

  -- the column that is made at a place
  made_at : (place : Place) (column : Column) → slice_get columns place ≡ Some column → slice_get (map (with_not_null key subject) columns) place ≡ Some (with_not_null key subject column)
  made_at place column at = slice_get-map (with_not_null key subject) columns place ∙ ap (option_map (with_not_null key subject)) at

  -- a column that the key names is NOT NULL
  key_so : (names : List Name) → ((name : Name) → list_any (λ (other : Name). bytes_eq other name) names ≡ true → list_any (λ (other : Name). bytes_eq other name) key ≡ true)
      → unknown_columns (keyless_table table columns) names ≡ [] → list_all (column_passes key_column_fits (table_made table columns key subject)) (places_named (keyless_table table columns) names) ≡ true
  key_so [] among known = refl
  key_so (name ∷ rest) among known =
      let first = parted (keyless_table table columns) name rest known in
      let there = found_at (keyless_table table columns) name first.place first.found in
      let same : bytes_eq name there.column.name ≡ true = subst (λ (other : Name). bytes_eq name other ≡ true) there.named (nat_list_eq_equiv.refl name) in
      let in_key : list_any (λ (other : Name). bytes_eq other there.column.name) key ≡ true = among there.column.name (or_left _ _ same) in
      let not_null : (with_not_null key subject there.column).not_null ≡ true = or_left _ _ (or_right there.column.not_null _ in_key) in
      let here : column_passes key_column_fits (table_made table columns key subject) first.place ≡ true =
      ap (λ (found : Option Column). option_map_or key_column_fits found false) (made_at first.place there.column there.at) ∙ not_null in
      let later = key_so rest (λ other is. among other (or_right (bytes_eq name other) _ is)) first.known in
      subst (λ (found : Option Place). list_all (column_passes key_column_fits (table_made table columns key subject)) (cons_option found (places_named (keyless_table table columns) rest)) ≡ true) (sym first.found) (and_from _ _ here later)

-- the SUBJECT is an INTEGER column, NOT NULL
pub subject_so : (table : Name) (columns : List Column) (key : List Name) (subject : Option Name) → unknown_columns (keyless_table table columns) (option_to_list subject) ≡ [] → subject_refused (keyless_table table columns) subject ≡ []
    → option_map_or (column_passes subject_column_fits (table_made table columns key subject)) (table_made table columns key subject).subject true ≡ true
subject_so table columns key None known kind = refl
subject_so table columns key (Some name) known kind =
    let draft : Schema = keyless_table table columns in
    let first = parted draft name [] known in
    let there = found_at draft name first.place first.found in
    let same : bytes_eq name there.column.name ≡ true = subst (λ (other : Name). bytes_eq name other ≡ true) there.named (nat_list_eq_equiv.refl name) in
    let not_null : (with_not_null key (Some name) there.column).not_null ≡ true = or_right (there.column.not_null || list_any (λ (other : Name). bytes_eq other there.column.name) key) _ same in
    let is : column_named draft name ≡ Some there.column = ap (option_and_then (slice_get columns)) first.found ∙ there.at in
    let lone = (none_of_both (in_column draft name (λ column. fault_if (not (is_integer column.kind)) TypeMismatch)) [] kind).0 in
    let integer = passed_so (is_integer there.column.kind) (sym (ap (λ (found : Option Column). option_map_or (λ column. fault_if (not (is_integer column.kind)) TypeMismatch) found []) is) ∙ lone) in
    let here : column_passes subject_column_fits (table_made table columns key (Some name)) first.place ≡ true =
    ap (λ (found : Option Column). option_map_or subject_column_fits found false) (made_at table columns key (Some name) first.place there.column there.at) ∙ and_from _ _ not_null integer in
    subst (λ (found : Option Place). option_map_or (column_passes subject_column_fits (table_made table columns key (Some name))) found true ≡ true) (sym first.found) here
  where
    passed_so : (test : Bool) → fault_if (not test) TypeMismatch ≡ [] → test ≡ true
    passed_so true none = refl
    passed_so false none = absurd cc

-- the SUBJECT is one of the columns
subject_within : (table : Name) (columns : List Column) (subject : Option Name) → length columns ≤ 64 → subject_is_keepable (option_and_then (place_of (keyless_table table columns)) subject) ≡ true
subject_within table columns None few = refl
subject_within table columns (Some name) few =
    elim (place_of (keyless_table table columns) name) as (λ found. place_of (keyless_table table columns) name ≡ found → subject_is_keepable found ≡ true) [
      | None ↦ λ e. refl
      | Some place ↦ λ e. let there = (found_at (keyless_table table columns) name place e).within in lt-ltb place 255 (omega arith)
    ] refl

module _ (history : History) (names : NamesAreThoseOf history) (table : Name) (columns : List Column) (key : List Name) (subject : Option Name)
    (none : create_refused (known_at history) table columns key subject ≡ []) where
  abbrev draft : Schema
  draft = keyless_table table columns

  abbrev made : Schema
  made = table_made table columns key subject

  record Parts : Type 0 where
    names_new : repeated_names (map (λ (column : Column). column.name) columns) ≡ []
    key_new : repeated_names key ≡ []
    key_known : unknown_columns (keyless_table table columns) key ≡ []
    subject_known : unknown_columns (keyless_table table columns) (option_to_list subject) ≡ []
    kind : subject_refused (keyless_table table columns) subject ≡ []
    few : length columns ≤ 64
    room : nat_le table_limit (length (known_at history).tables) ≡ false
    new : known_name_refused (is_some (table_of (known_at history) table)) table ≡ []

  all_parts : Parts
  all_parts =
      let a : List NameFault = repeated_names (map (λ (column : Column). column.name) columns) in
      let b : List NameFault = repeated_names key in
      let c : List NameFault = unknown_columns draft (key ++ option_to_list subject) in
      let d : List NameFault = subject_refused draft subject in
      let e : List NameFault = sizes_refused (known_at history) columns in
      let f : List NameFault = known_name_refused (is_some (table_of (known_at history) table)) table in
      let five = none_of_both (a ++ b ++ c ++ d ++ e) f none in
      let four = none_of_both (a ++ b ++ c ++ d) e five.0 in
      let three = none_of_both (a ++ b ++ c) d four.0 in
      let two = none_of_both (a ++ b) c three.0 in
      let one = none_of_both a b two.0 in
      let keys = none_of_both (unknown_columns draft key) (unknown_columns draft (option_to_list subject)) (sym (flat_map-append (λ (name : Name). fault_if (is_none (place_of draft name)) (UnknownColumn name)) key (option_to_list subject)) ∙ two.1) in
      let sizes = none_of_both (too_many column_limit (length columns)) (fault_if (nat_le table_limit (length (known_at history).tables)) (TooManyParts table_limit)) four.1 in
      let count = ltb-false 64 (length columns) (not_refused (nat_lt column_limit (length columns)) (TooManyParts column_limit) sizes.0) in
      record {
        names_new = one.0;
        key_new = one.1;
        key_known = keys.0;
        subject_known = keys.1;
        kind = three.1;
        few = count;
        room = not_refused (nat_le table_limit (length (known_at history).tables)) (TooManyParts table_limit) sizes.1;
        new = five.1;
      }

  key_differs : all_differ nat_eq (places_named draft key) ≡ true
  key_differs = places_differ draft key (names_differ key all_parts.key_new)

  formed : is_well_formed made ≡ true
  formed =
      let names_there = ap (all_differ bytes_eq) (names_stay table columns key subject columns) ∙ names_differ (map (λ (column : Column). column.name) columns) all_parts.names_new in
      and_from _ _ (and_from _ _ (and_from _ _ names_there key_differs) (key_so table columns key subject key (λ name is. is) all_parts.key_known)) (subject_so table columns key subject all_parts.subject_known all_parts.kind)

  pub created_fits : create_fits history made ≡ true
  created_fits =
      let below : length (known_at history).tables < 64 = leb-false 64 (length (known_at history).tables) all_parts.room in
      let count = subst (λ (n : ℕ). nat_lt n table_limit ≡ true) names.count (lt-ltb (length (known_at history).tables) 64 below) in
      let new = sym (ap is_none (names.tables table)) ∙ absent (table_of (known_at history) table) (AlreadyThere table) all_parts.new in
      and_from _ _ (and_from _ _ count new) formed

  pub created_kept : (is_folded_name table && columns_written columns && has_members key) ≡ true → schema_is_keepable made ≡ true
  created_kept written =
      let outer = and_parts (is_folded_name table && columns_written columns) (has_members key) written in
      let inner = and_parts (is_folded_name table) (columns_written columns) outer.0 in
      let listed = and_parts (has_members columns) (list_all (λ (column : Column). is_folded_name column.name) columns) inner.1 in
      let few = all_parts.few in
      let count : length (map (with_not_null key subject) columns) ≡ length columns = length-map columns (with_not_null key subject) in
      let one = leb-true 1 (length columns) listed.0 in
      let one_key = leb-true 1 (length key) outer.1 in
      let key_count : length (places_named draft key) ≡ length key = length-places draft key all_parts.key_known in
      let key_few = no_more_than (length columns) (places_named draft key) key_differs (places_within draft key) in
      let columns_kept : columns_are_keepable made.columns ≡ true =
      and_from _ _ (and_from _ _ (le-leb 1 (length made.columns) (omega arith)) (le-leb (length made.columns) 64 (omega arith))) (folded_stay table columns key subject columns ∙ listed.1) in
      let key_kept : key_is_keepable made.key ≡ true =
      and_from _ _ (and_from _ _ (le-leb 1 (length (places_named draft key)) (omega arith)) (le-leb (length (places_named draft key)) 64 (omega arith))) (below_more (length columns) 256 (places_named draft key) (omega arith) (places_within draft key)) in
      and_from _ _ (and_from _ _ (and_from _ _ inner.0 columns_kept) key_kept) (subject_within table columns subject few)
