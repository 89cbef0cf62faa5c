-- What passes the checks may follow the history.
use Rattle.std.proofs.Common.{◌≡◌, ℕ, true, ◌&&◌, List, [], ◌++◌, length, Option, Some, None, Ok, Err, refl, sym, ap, subst, ◌∙◌, arith}
use Rattle.std.specs.Prelude.{is_none, is_some, not, option_map, option_and_then, unwrap_or, bytes_eq}
use Rattle.std.specs.Cmp.Lexicographic.{nat_list_eq_equiv}
use Rattle.std.specs.List.{list_all, zip}
use Rattle.std.specs.Option.{option_map_or}
use Rattle.std.proofs.lemmas.Bool.{and_parts, and_from, lt-ltb}
use Rattle.std.proofs.lemmas.List.{length-map}
use Rattle.std.proofs.lemmas.List.Concat.{flat_map-append}
use Rattle.hippo_values.specs.declared.names.Name.{Name}
use Rattle.hippo_model.specs.declared.entry.Act.{Act}
use Rattle.hippo_model.specs.declared.entry.Act.TheVariants as acts
use Rattle.hippo_model.specs.declared.name_fault.NameFault.TheVariants.{UnknownColumn}
use Rattle.hippo_model.specs.declared.schema.Schema.{Schema}
use Rattle.hippo_stmt_ast.specs.declared.statement.Stmt.{Stmt}
use Rattle.hippo_stmt_ast.specs.declared.statement.Stmt.TheVariants.{CreateTable, CreatePurpose, CreateRecipient, CreateItem, Authorize, Deauthorize, Allow, Revoke, Choice, Insert, Update, Delete}
use Rattle.hippo_model.specs.declared.wanted.Wanted.{Wanted}
use Rattle.hippo_model.specs.declared.wanted.Wanted.TheVariants.{Ready, Add, Set, Remove}
use Rattle.hippo_model.specs.declared.table_fault.TableFault.TheVariants.{KeyThere, KeyMissing}
use Rattle.hippo_model.specs.Histories.{schema_at}
use Rattle.hippo_model.specs.Keepable.{is_folded_name, item_is_keepable, has_count, value_is_keepable, schema_is_keepable}
use Rattle.hippo_model.specs.Rows.{key_of, row_at, last_at}
use Rattle.hippo_model.specs.Terms.{History, Meaning, Row, Key}
use Rattle.hippo_model.specs.Validity.{is_valid, days_fit, has_columns, column_passes, key_column_fits, subject_column_fits, is_well_formed}
use Rattle.hippo_model.specs.Versions.{is_live, key_fits, version_fits}
use Rattle.hippo_tables_keyed.proofs.RowsAfter.{key_of-row_at}
use Rattle.hippo_typing_catalog.specs.Catalogs.{known_at, table_of}
use Rattle.hippo_typing_catalog.specs.ChangesRefused.{places_named, unknown_columns, in_table, unknown_item_if_any, rule_refused, rule_item_refused, insert_refused, update_refused, key_refused, key_changed, assignments_refused, change_refused}
use Rattle.hippo_typing_catalog.specs.ChangesWanted.{key_written, table_made, wanted_by}
use Rattle.hippo_typing_catalog.specs.WrittenColumns.{place_of}
use Rattle.hippo_typing_catalog.specs.Refusals.{fault_if, unknown_table, unknown_pair, repeated_names}
use Rattle.hippo_tables.specs.Finished.{live_row, live_number, written_row, finished_act}
use Rattle.hippo_tables.proofs.StandingLemmas.{schema_at-named}
use Rattle.hippo_typing.specs.ResolutionLaws.{NamesAreThoseOf}
use Rattle.hippo_typing.proofs.CatalogTheorem.{valid_names}
use Rattle.hippo_typing_laws.specs.FollowingLaws.{ChangesMayFollow}
use Rattle.hippo_typing_laws.specs.Written.{is_typed, has_members, names_fit, is_written}
use Rattle.hippo_typing_laws.proofs.CreateAct.{created_fits, created_kept}
use Rattle.hippo_typing_laws.proofs.FitActs.{IsFit, at_once, fit_follows}
use Rattle.hippo_typing_laws.proofs.HistoryLemmas.{schema_kept, rows_fit}
use Rattle.hippo_typing_laws.proofs.NameActs.{new_purpose, new_recipient, new_item, known_item, known_pair}
use Rattle.hippo_typing_laws.proofs.RefusalLemmas.{none_of_both, mapped, refused_there}
use Rattle.hippo_typing_laws.proofs.RowActs.{row_kept, row_typed, inserted_fits, written_typed, first_unrefused, written_fits, key_stays, key_of-fits, key_of-kept}
use Rattle.hippo_typing_laws.proofs.RuleActs.{few_columns, few_key, columns_there, columns_kept, days_kept, table_so, item_there}

-- a statement's only act, which needs no existing row
ready_act : (meaning : Meaning) (history : History) (made act : Act) (wanted : Wanted) → ◌≡◌ {A = Option Wanted} (Some (Ready made)) (Some wanted) → finished_act history wanted ≡ Ok act → IsFit meaning history made → IsFit meaning history act
ready_act meaning history made act wanted is comes fit =
    let same : Ready made ≡ wanted = cc in
    subst (IsFit meaning history) (at_once history made act wanted same comes) fit

no_number : {A : Type 0} (found : Option ℕ) (made act : A) → option_map_or (λ number. Err (KeyThere number)) found (Ok made) ≡ Ok act → (found ≡ None) × (made ≡ act)
no_number None made act e = (refl, cc)
no_number (Some number) made act e = absurd cc

-- the existing row, and the act that it makes
record IsLive (made : Row → Act) (found : Option Row) (act : Act) : Type 0 where
  row : Row
  is : found ≡ Some row
  gives : made row ≡ act

live_so : (made : Row → Act) (found : Option Row) (act : Act) → option_map_or (λ row. Ok (made row)) found (Err KeyMissing) ≡ Ok act → IsLive made found act
live_so made None act e = absurd cc
live_so made (Some row) act e = record { row = row; is = refl; gives = cc }

not_live : (found : Option Row) (number : Row → ℕ) → option_map number found ≡ None → not (is_some found) ≡ true
not_live None number e = refl
not_live (Some row) number e = absurd cc

-- of two lists of names, the columns of the first are known
first_known : (schema : Schema) (columns keys : List Name) → unknown_columns schema (columns ++ keys) ≡ [] → unknown_columns schema columns ≡ []
first_known schema columns keys none =
    (none_of_both (unknown_columns schema columns) (unknown_columns schema keys)
    (sym (flat_map-append (λ (name : Name). fault_if (is_none (place_of schema name)) (UnknownColumn name)) columns keys) ∙ none)).0

module _ (meaning : Meaning) (history : History) (valid : is_valid meaning history ≡ true) where
  names : NamesAreThoseOf history
  names = valid_names meaning history valid

  -- a table that a statement names, with its schema
  record IsTable (table : Name) (schema : Schema) : Type 0 where
    known : table_of (known_at history) table ≡ Some schema
    found : schema_at history table ≡ Some schema
    named : bytes_eq table schema.name ≡ true
    kept : schema_is_keepable schema ≡ true
    formed : is_well_formed schema ≡ true

  table_there : (table : Name) (schema : Schema) → table_of (known_at history) table ≡ Some schema → IsTable table schema
  table_there table schema known =
      let found : schema_at history table ≡ Some schema = sym (names.tables table) ∙ known in
      let both = schema_kept meaning history table schema valid found in
      record {
        known = known;
        found = found;
        named = nat_list_eq_equiv.symm table schema.name ∙ schema_at-named history table schema found;
        kept = both.0;
        formed = both.1;
      }

  revoke_fits : (purpose recipient table : Name) (columns : List Name) (schema : Schema) → IsTable table schema → (names_fit purpose recipient table && has_members columns) ≡ true
      → unknown_pair (known_at history) purpose recipient ≡ [] → rule_refused columns schema ≡ [] → IsFit meaning history (acts.Revoke purpose recipient table (places_named schema columns))
  revoke_fits purpose recipient table columns schema there spelled pair none =
      let parts = and_parts (names_fit purpose recipient table) (has_members columns) spelled in
      record {
        keepable = and_from _ _ parts.0 (columns_kept schema columns none there.kept);
        acceptable = and_from _ _ (known_pair history names purpose recipient pair) (table_so history names table schema there.found (has_columns (places_named schema columns)) (columns_there schema columns none parts.1));
      }

  allow_fits : (purpose recipient table : Name) (columns : List Name) (item : Option Name) (days : Option ℕ) (schema : Schema) → IsTable table schema → (names_fit purpose recipient table && has_members columns && item_is_keepable item && days_fit days) ≡ true
      → unknown_pair (known_at history) purpose recipient ≡ [] → rule_refused columns schema ≡ [] → unknown_item_if_any (known_at history) item ≡ [] → rule_item_refused item schema ≡ [] → IsFit meaning history (acts.Allow purpose recipient table (places_named schema columns) item days)
  allow_fits purpose recipient table columns item days schema there spelled pair none unknown subject =
      let outer = and_parts (names_fit purpose recipient table && has_members columns && item_is_keepable item) (days_fit days) spelled in
      let inner = and_parts (names_fit purpose recipient table && has_members columns) (item_is_keepable item) outer.0 in
      let rule = revoke_fits purpose recipient table columns schema there inner.0 pair none in
      record {
        keepable = and_from _ _ (and_from _ _ rule.keepable inner.1) (days_kept days outer.1);
        acceptable = and_from _ _ (and_from _ _ rule.acceptable (item_there history names table schema there.found item unknown subject)) outer.1;
      }

  insert_fits : (table : Name) (values : Row) (schema : Schema) (act : Act) → IsTable table schema → (is_folded_name table && list_all is_typed values) ≡ true → insert_refused values schema ≡ []
      → finished_act history (Add table values (key_of schema.key values)) ≡ Ok act → IsFit meaning history act
  insert_fits table values schema act there spelled none comes =
      let parts = and_parts (is_folded_name table) (list_all is_typed values) spelled in
      let key : Key = key_of schema.key values in
      let missing = no_number (live_number history table key) (acts.Insert table values) act comes in
      let number : Row → ℕ = λ row. unwrap_or (last_at schema history key) 0 in
      let absent : not (is_live schema history key) ≡ true =
      not_live (row_at schema history key) number
      (sym (ap (option_and_then (λ (made : Schema). option_map (λ row. unwrap_or (last_at made history key) 0) (row_at made history key))) there.found) ∙ missing.0) in
      let fit = inserted_fits schema values none in
      subst (IsFit meaning history) missing.1 (record {
        keepable = and_from _ _ parts.0 (row_kept schema values (few_columns schema there.kept) fit parts.1);
        acceptable = table_so history names table schema there.found (λ schema. version_fits schema history (acts.Insert table values)) (and_from _ _ (and_from _ _ there.named fit) absent);
      })

  row_there : (table : Name) (schema : Schema) (key row : Row) → IsTable table schema → live_row history table key ≡ Some row → row_at schema history key ≡ Some row
  row_there table schema key row there live = sym (ap (option_and_then (λ schema. row_at schema history key)) there.found) ∙ live

  delete_fits : (table : Name) (key : Key) (schema : Schema) (act : Act) → IsTable table schema → is_folded_name table ≡ true → finished_act history (Remove table key) ≡ Ok act → IsFit meaning history act
  delete_fits table key schema act there spelled comes =
      let live = live_so (λ row. acts.Delete table key) (live_row history table key) act comes in
      let found = row_there table schema key live.row there live.is in
      let kept = rows_fit meaning history table schema key live.row valid there.found found in
      let key_is : key_of schema.key live.row ≡ key = key_of-row_at schema history key live.row found in
      let keyed = (and_parts _ (option_map_or (column_passes subject_column_fits schema) schema.subject true) there.formed).0 in
      let columns = (and_parts _ (list_all (column_passes key_column_fits schema) schema.key) keyed).1 in
      let fit = subst (λ (key : Key). key_fits schema key ≡ true) key_is (key_of-fits schema live.row kept.fits schema.key columns) in
      let cells = (and_parts (has_count live.row) (list_all value_is_keepable live.row) kept.keepable).1 in
      let short : length key ≡ length schema.key = sym (ap length key_is) ∙ length-map schema.key _ in
      let few = few_key schema there.kept in
      subst (IsFit meaning history) live.gives (record {
        keepable = and_from _ _ spelled (and_from _ _ (lt-ltb (length key) 256 (omega arith)) (subst (λ (key : Key). list_all value_is_keepable key ≡ true) key_is (key_of-kept live.row cells schema.key)));
        acceptable = table_so history names table schema there.found (λ schema. version_fits schema history (acts.Delete table key)) (and_from _ _ (and_from _ _ there.named fit) (ap is_some found));
      })

  update_fits : (table : Name) (columns : List Name) (values : Row) (keys : List Name) (key_values : Row) (key : Key) (schema : Schema) (act : Act) → IsTable table schema → (is_folded_name table && list_all is_typed values) ≡ true
      → update_refused columns values keys key_values schema ≡ [] → finished_act history (Set table key (places_named schema columns) values) ≡ Ok act → IsFit meaning history act
  update_fits table columns values keys key_values key schema act there spelled none comes =
      let live = live_so (λ row. acts.Update table (written_row (places_named schema columns) values row)) (live_row history table key) act comes in
      let found = row_there table schema key live.row there live.is in
      let kept = rows_fit meaning history table schema key live.row valid there.found found in
      let key_is : key_of schema.key live.row ≡ key = key_of-row_at schema history key live.row found in
      let parts = and_parts (is_folded_name table) (list_all is_typed values) spelled in
      let five = none_of_both (repeated_names columns ++ repeated_names keys ++ unknown_columns schema (columns ++ keys) ++ key_refused schema keys ++ key_changed schema columns) (assignments_refused schema (zip columns values ++ zip keys key_values)) none in
      let four = none_of_both (repeated_names columns ++ repeated_names keys ++ unknown_columns schema (columns ++ keys) ++ key_refused schema keys) (key_changed schema columns) five.0 in
      let three = none_of_both (repeated_names columns ++ repeated_names keys ++ unknown_columns schema (columns ++ keys)) (key_refused schema keys) four.0 in
      let two = none_of_both (repeated_names columns ++ repeated_names keys) (unknown_columns schema (columns ++ keys)) three.0 in
      let known = first_known schema columns keys two.1 in
      let fit = written_fits schema columns values live.row known (first_unrefused schema (zip columns values) (zip keys key_values) five.1) kept.fits in
      let cells = (and_parts (has_count live.row) (list_all value_is_keepable live.row) kept.keepable).1 in
      let typed = written_typed (places_named schema columns) values live.row parts.1 (row_typed live.row cells) in
      let stays = key_stays schema columns values live.row known four.1 ∙ key_is in
      let row : Row = written_row (places_named schema columns) values live.row in
      subst (IsFit meaning history) live.gives (record {
        keepable = and_from _ _ parts.0 (row_kept schema row (few_columns schema there.kept) fit typed);
        acceptable = table_so history names table schema there.found (λ schema. version_fits schema history (acts.Update table row)) (and_from _ _ (and_from _ _ there.named fit) (ap (is_live schema history) stays ∙ ap is_some found));
      })

  by_statement : (statement : Stmt) (wanted : Wanted) (act : Act) → is_written statement ≡ true → change_refused (known_at history) statement ≡ [] → wanted_by (known_at history) statement ≡ Some wanted → finished_act history wanted ≡ Ok act → IsFit meaning history act
  by_statement (CreateTable table columns key subject) wanted act spelled none wants comes =
      ready_act meaning history (acts.Create (table_made table columns key subject)) act wanted wants comes
      (record { keepable = created_kept history names table columns key subject none spelled; acceptable = created_fits history names table columns key subject none })
  by_statement (CreatePurpose purpose) wanted act spelled none wants comes =
      ready_act meaning history (acts.Purpose purpose) act wanted wants comes (record { keepable = spelled; acceptable = new_purpose history names purpose none })
  by_statement (CreateRecipient recipient) wanted act spelled none wants comes =
      ready_act meaning history (acts.Recipient recipient) act wanted wants comes (record { keepable = spelled; acceptable = new_recipient history names recipient none })
  by_statement (CreateItem item kind) wanted act spelled none wants comes =
      ready_act meaning history (acts.Item item kind) act wanted wants comes (record { keepable = spelled; acceptable = new_item history names item none })
  by_statement (Authorize user purpose recipient) wanted act spelled none wants comes =
      ready_act meaning history (acts.Authorize user purpose recipient) act wanted wants comes (record { keepable = spelled; acceptable = known_pair history names purpose recipient none })
  by_statement (Deauthorize user purpose recipient) wanted act spelled none wants comes =
      ready_act meaning history (acts.Deauthorize user purpose recipient) act wanted wants comes (record { keepable = spelled; acceptable = known_pair history names purpose recipient none })
  by_statement (Allow purpose recipient table columns item days) wanted act spelled none wants comes =
      let from = mapped (λ (schema : Schema). Ready (acts.Allow purpose recipient table (places_named schema columns) item days)) (table_of (known_at history) table) wanted wants in
      let there = table_there table from.from from.is in
      let known = known_at history in
      let four = none_of_both (unknown_table known table ++ unknown_pair known purpose recipient ++ unknown_item_if_any known item ++ in_table known table (rule_refused columns)) (in_table known table (rule_item_refused item)) none in
      let three = none_of_both (unknown_table known table ++ unknown_pair known purpose recipient ++ unknown_item_if_any known item) (in_table known table (rule_refused columns)) four.0 in
      let two = none_of_both (unknown_table known table ++ unknown_pair known purpose recipient) (unknown_item_if_any known item) three.0 in
      let one = none_of_both (unknown_table known table) (unknown_pair known purpose recipient) two.0 in
      let fit = allow_fits purpose recipient table columns item days from.from there spelled one.1 (refused_there (rule_refused columns) (table_of known table) from.from from.is three.1) two.1 (refused_there (rule_item_refused item) (table_of known table) from.from from.is four.1) in
      subst (IsFit meaning history) (at_once history (acts.Allow purpose recipient table (places_named from.from columns) item days) act wanted from.gives comes) fit
  by_statement (Revoke purpose recipient table columns) wanted act spelled none wants comes =
      let from = mapped (λ (schema : Schema). Ready (acts.Revoke purpose recipient table (places_named schema columns))) (table_of (known_at history) table) wanted wants in
      let there = table_there table from.from from.is in
      let known = known_at history in
      let two = none_of_both (unknown_table known table ++ unknown_pair known purpose recipient) (in_table known table (rule_refused columns)) none in
      let one = none_of_both (unknown_table known table) (unknown_pair known purpose recipient) two.0 in
      let fit = revoke_fits purpose recipient table columns from.from there spelled one.1 (refused_there (rule_refused columns) (table_of known table) from.from from.is two.1) in
      subst (IsFit meaning history) (at_once history (acts.Revoke purpose recipient table (places_named from.from columns)) act wanted from.gives comes) fit
  by_statement (Choice subject item agreed) wanted act spelled none wants comes =
      ready_act meaning history (acts.Choice subject item agreed) act wanted wants comes (record { keepable = spelled; acceptable = known_item history names item none })
  by_statement (Insert table values) wanted act spelled none wants comes =
      let from = mapped (λ (schema : Schema). Add table values (key_of schema.key values)) (table_of (known_at history) table) wanted wants in
      let there = table_there table from.from from.is in
      let both = none_of_both (unknown_table (known_at history) table) (in_table (known_at history) table (insert_refused values)) none in
      insert_fits table values from.from act there spelled (refused_there (insert_refused values) (table_of (known_at history) table) from.from from.is both.1) (ap (finished_act history) from.gives ∙ comes)
  by_statement (Update table columns values keys key_values) wanted act spelled none wants comes =
      let from = mapped (λ (schema : Schema). Set table (key_written schema keys key_values) (places_named schema columns) values) (table_of (known_at history) table) wanted wants in
      let there = table_there table from.from from.is in
      let both = none_of_both (unknown_table (known_at history) table) (in_table (known_at history) table (update_refused columns values keys key_values)) none in
      update_fits table columns values keys key_values (key_written from.from keys key_values) from.from act there spelled (refused_there (update_refused columns values keys key_values) (table_of (known_at history) table) from.from from.is both.1) (ap (finished_act history) from.gives ∙ comes)
  by_statement (Delete table keys values) wanted act spelled none wants comes =
      let from = mapped (λ (schema : Schema). Remove table (key_written schema keys values)) (table_of (known_at history) table) wanted wants in
      let there = table_there table from.from from.is in
      delete_fits table (key_written from.from keys values) from.from act there spelled (ap (finished_act history) from.gives ∙ comes)
  by_statement statement wanted act spelled none wants comes = absurd cc

-- a changing statement that passes its checks may follow the history
pub changes_may_follow : ChangesMayFollow
changes_may_follow meaning history moment statement act valid room comes =
    fit_follows meaning history moment act room (by_statement meaning history valid statement comes.wanted act comes.written comes.unrefused comes.wants comes.comes)
