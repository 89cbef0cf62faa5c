-- Tables that represent a history represent it with one more entry, and the entry can be reverted.
use Rattle.std.proofs.Common.{◌≡◌, ℕ, Bool, true, false, ◌&&◌, not, if◌then◌else◌, [], ◌∷◌, ◌++◌, map, Option, Some, None, option_map, slice_get, get_or, sym, ap, ◌∙◌, refl, subst, bytes_eq}
use Rattle.std.specs.Prelude.{option_and_then, is_none, nat_lt, count_by, filter_map}
use Rattle.std.specs.Bool.{then_some}
use Rattle.std.specs.Option.{option_or, option_map_or}
use Rattle.std.proofs.lemmas.Bool.{and_parts, false≢true}
use Rattle.std.proofs.lemmas.Slice.Eq.{bytes_eq-Decides}
use Rattle.std.proofs.lemmas.List.{length-map}
use Rattle.hippo_values.specs.declared.names.Name.{Name}
use Rattle.hippo_model.specs.declared.born_row.BornRow.{BornRow}
use Rattle.hippo_model.specs.declared.schema.Schema.{Schema}
use Rattle.hippo_model.specs.declared.entry.Entry.{Entry}
use Rattle.hippo_model.specs.declared.entry.Act.{Act}
use Rattle.hippo_model.specs.declared.entry.Act.TheVariants.{Create, Insert, Update, Delete}
use Rattle.hippo_model.specs.Terms.{History, Row, Key}
use Rattle.hippo_model.specs.Histories.{schema_created, schema_at}
use Rattle.hippo_model.specs.Rows.{key_of, key_named, row_at, born_at, born_row_at, table_rows}
use Rattle.hippo_tables_keyed.specs.RowSets.{find_row}
use Rattle.hippo_model.specs.Versions.{row_fits, key_fits, is_live, version_fits}
use Rattle.hippo_model.specs.Validity.{create_fits, creates_table, is_well_formed}
use Rattle.hippo_values.specs.Limits.{table_limit}
use Rattle.hippo_values.proofs.OptionLemmas.{none_there, some_there}
use Rattle.hippo_model.proofs.LastWords.{last_word-append}
use Rattle.hippo_tables_keyed.proofs.RowsAfter.{table_rows-Insert, table_rows-Update, table_rows-Delete, row_with-table_rows, IsAscending-table_rows, key_in-born_row_at}
use Rattle.hippo_tables_keyed.proofs.ChangesOfRows.{is_live-found}
use Rattle.hippo_tables_keyed.proofs.KeptRows.{slice_get-find_row}
use Rattle.hippo_tables.specs.declared.tables.Change.{Change}
use Rattle.hippo_tables.specs.declared.tables.Change.TheVariants.{Inserted, Updated}
use Rattle.hippo_tables.specs.declared.tables.Tables.{Tables}
use Rattle.hippo_tables.specs.declared.table.Before.{Before}
use Rattle.hippo_tables.specs.KeptTables.{KeptTable, change_number, table_at, empty_table, grown_table, after_insert, after_update, after_delete}
use Rattle.hippo_tables.specs.Before.{before_of, renewed_table}
use Rattle.hippo_tables.specs.Standing.{kept_table, held_table, TablesStandFor, table_before, RemembersTables, IsNextAct, leaves_tables, with_change, Makes, InsertsIntoTable, Updates, Deletes}
use Rattle.hippo_tables.proofs.KeptLemmas.{after_delete-grown_table, after_update-after_update}
use Rattle.hippo_tables.proofs.HistoryLemmas.{table_at-other, table_at-grown_table, table_at-after_update, table_at-after_delete}

pub same_name : (a b : Name) → bytes_eq a b ≡ true → a ≡ b
same_name a b same = (bytes_eq-Decides a b).0 same

then_some_parts : {A : Type 0} (test : Bool) (x y : A) → then_some test x ≡ Some y → (test ≡ true) × (x ≡ y)
then_some_parts true x y e = (refl, cc)
then_some_parts false x y e = absurd cc

created_named : (name : Name) (act : Act) (schema : Schema) → schema_created name act ≡ Some schema → bytes_eq schema.name name ≡ true
created_named name (Create made) schema is = let parts = then_some_parts (bytes_eq made.name name) made schema is in subst (λ (schema : Schema). bytes_eq schema.name name ≡ true) parts.1 parts.0
created_named name act schema is = absurd cc

-- a schema has the name it is found by
pub schema_at-named : (history : History) (name : Name) (schema : Schema) → schema_at history name ≡ Some schema → bytes_eq schema.name name ≡ true
schema_at-named [] name schema at = absurd cc
schema_at-named (entry ∷ later) name schema at =
    elim (schema_at later name) as (λ found. schema_at later name ≡ found → option_or found (schema_created name entry.act) ≡ Some schema → bytes_eq schema.name name ≡ true) [
      | None ↦ λ e at. created_named name entry.act schema at
      | Some other ↦ λ e at. schema_at-named later name schema (e ∙ at)
    ] refl at

schema_at-plain : (history : History) (entry : Entry) (name : Name) → schema_created name entry.act ≡ None → schema_at (history ++ entry ∷ []) name ≡ schema_at history name
schema_at-plain history entry name plain = last_word-append (λ entry. schema_created name entry.act) history entry ∙ ap (λ word. option_or word (schema_at history name)) plain

silent_created : (act : Act) → leaves_tables act ≡ true → (name : Name) → schema_created name act ≡ None
silent_created (Create schema) silent name = absurd (false≢true silent)
silent_created act silent name = refl

silent_named : (act : Act) → leaves_tables act ≡ true → (schema : Schema) → key_named schema act ≡ None
silent_named (Insert table row) silent schema = absurd (false≢true silent)
silent_named (Update table row) silent schema = absurd (false≢true silent)
silent_named (Delete table key) silent schema = absurd (false≢true silent)
silent_named act silent schema = refl

module _ (history : History) (entry : Entry) where
  -- a table that does not change
  kept_table-other : (name : Name) → schema_created name entry.act ≡ None → ((schema : Schema) → bytes_eq schema.name name ≡ true → key_named schema entry.act ≡ None) → kept_table (history ++ entry ∷ []) name ≡ kept_table history name
  kept_table-other name plain names =
      ap (option_map (table_at (history ++ entry ∷ []))) (schema_at-plain history entry name plain)
      ∙ (elim (schema_at history name) as (λ found. schema_at history name ≡ found → option_map (table_at (history ++ entry ∷ [])) found ≡ option_map (table_at history) found) [
        | None ↦ λ e. refl
        | Some schema ↦ λ e. ap Some (table_at-other schema history entry (names schema (schema_at-named history name schema e)))
      ] refl)

  pub stands-silent : (old new : Tables) → leaves_tables entry.act ≡ true → ((name : Name) → held_table new name ≡ held_table old name) → TablesStandFor old history → TablesStandFor new (history ++ entry ∷ [])
  stands-silent old new silent same stands = record {
    kept = λ name. same name ∙ stands.kept name ∙ sym (kept_table-other name (silent_created entry.act silent name) (λ schema has. silent_named entry.act silent schema));
  }

  -- one table is changed
  module _ (table : Name) (schema : Schema) (at : schema_at history table ≡ Some schema) (change : KeptTable → KeptTable) (becomes : table_at (history ++ entry ∷ []) schema ≡ change (table_at history schema)) (plain : (name : Name) → schema_created name entry.act ≡ None) (others : (other : Schema) → bytes_eq table other.name ≡ false → key_named other entry.act ≡ None) (old new : Tables) (is : (other : Name) → held_table new other ≡ with_change table change (held_table old) other) (stands : TablesStandFor old history) where
    here : kept_table history table ≡ Some (table_at history schema)
    here = ap (option_map (table_at history)) at

    is_here : (name : Name) → bytes_eq table name ≡ true → held_table new name ≡ Some (change (table_at history schema))
    is_here name same =
        is name ∙ rw same (ap (option_map change) (stands.kept name ∙ ap (kept_table history) (sym (same_name table name same)) ∙ here))

    is_there : (name : Name) → bytes_eq table name ≡ false → held_table new name ≡ kept_table history name
    is_there name other = is name ∙ rw other (stands.kept name)

    pub stands-changed : TablesStandFor new (history ++ entry ∷ [])
    stands-changed = record {
      kept = λ name. elim (bytes_eq table name) as (λ same. bytes_eq table name ≡ same → held_table new name ≡ kept_table (history ++ entry ∷ []) name) [
        | true ↦ λ e.
            let found : schema_at (history ++ entry ∷ []) name ≡ Some schema = schema_at-plain history entry name (plain name) ∙ ap (schema_at history) (sym (same_name table name e)) ∙ at in
            is_here name e ∙ ap Some (sym becomes) ∙ sym (ap (option_map (table_at (history ++ entry ∷ []))) found)
        | false ↦ λ e.
            is_there name e ∙ sym (kept_table-other name (plain name) (λ other has. others other (subst (λ (name : Name). bytes_eq table name ≡ false) (sym (same_name other.name name has)) e)))
      ] refl;
    }

    -- and reverted
    pub changed_back : (back : KeptTable → KeptTable) → back (change (table_at history schema)) ≡ table_at history schema → (name : Name) → (if bytes_eq table name then option_map back (held_table new name) else held_table new name) ≡ kept_table history name
    changed_back back again name =
        elim (bytes_eq table name) as (λ same. bytes_eq table name ≡ same → (if same then option_map back (held_table new name) else held_table new name) ≡ kept_table history name) [
          | true ↦ λ e. ap (option_map back) (is_here name e) ∙ ap Some again ∙ sym (ap (kept_table history) (sym (same_name table name e)) ∙ here)
          | false ↦ λ e. is_there name e
        ] refl

-- facts about a version that may follow
table_passed : (found : Option Schema) (test : Schema → Bool) → option_map_or test found false ≡ true → (schema : Schema) × (found ≡ Some schema) × (test schema ≡ true)
table_passed None test passes = absurd (false≢true passes)
table_passed (Some schema) test passes = (schema, refl, passes)

not_true : (test : Bool) → not test ≡ true → test ≡ false
not_true true wrong = absurd (false≢true wrong)
not_true false right = refl

none_here : (found : Option Schema) → is_none found ≡ true → found ≡ None
none_here None no_one = refl
none_here (Some schema) some = absurd cc

pub create_parts : (history : History) (schema : Schema) → create_fits history schema ≡ true → is_none (schema_at history schema.name) ≡ true
create_parts history schema fits =
    let few : Bool = nat_lt (count_by (λ entry. creates_table entry.act) history) table_limit in
    let both = and_parts (few && is_none (schema_at history schema.name)) (is_well_formed schema) fits in
    (and_parts few (is_none (schema_at history schema.name)) both.0).1

-- the row with a live key, and its place
pub row_found : (schema : Schema) (history : History) (key : Key) (place : ℕ) → find_row schema.key key (table_rows schema history) ≡ Some place → slice_get (table_rows schema history) place ≡ born_row_at schema history key
row_found schema history key place found =
    sym (ap (option_and_then (slice_get (table_rows schema history))) found)
    ∙ slice_get-find_row schema.key key (table_rows schema history) ∙ row_with-table_rows schema history key

pub old_row : (schema : Schema) (history : History) (key : Key) → is_live schema history key ≡ true → (kept : BornRow) × (born_row_at schema history key ≡ Some kept) × (kept.born ≡ born_at schema history key)
old_row schema history key lives =
    let live = some_there (row_at schema history key) lives in
    (record { row = live.0; born = born_at schema history key }, ap (option_map (λ row. record { row = row; born = born_at schema history key })) live.1, refl)

module _ (history : History) (entry : Entry) (old new : Tables) where
  pub Adds-insert : (table : Name) (row : Row) → entry.act ≡ Insert table row → InsertsIntoTable old new table (record { row = row; born = entry.moment }) entry.seq → IsNextAct history (Insert table row) → TablesStandFor old history → TablesStandFor new (history ++ entry ∷ []) × RemembersTables new history
  Adds-insert table row is inserts next stands =
      let kept : BornRow = record { row = row; born = entry.moment } in
      let passed = table_passed (schema_at history table) (λ schema. version_fits schema history (Insert table row)) next in
      let schema : Schema = passed.0 in
      let key : Key = key_of schema.key row in
      let parts = and_parts (bytes_eq table schema.name && row_fits schema row) (not (is_live schema history key)) passed.2 in
      let same = (and_parts (bytes_eq table schema.name) (row_fits schema row) parts.0).0 in
      let gone = not_true (is_live schema history key) parts.1 in
      let names : key_named schema entry.act ≡ Some key = ap (key_named schema) is ∙ rw same in
      let becomes = table_at-grown_table schema history entry key names kept refl (table_rows-Insert schema history entry table row is same) gone in
      let missing : find_row schema.key key (table_rows schema history) ≡ None = none_there (find_row schema.key key (table_rows schema history)) (is_live-found schema history key ∙ gone) in
      let new_is : after_insert kept entry.seq (table_at history schema) ≡ grown_table kept entry.seq (table_at history schema) = ap (λ found. option_map_or (λ place. table_at history schema) found (grown_table kept entry.seq (table_at history schema))) missing in
      let again : after_delete key (after_insert kept entry.seq (table_at history schema)) ≡ table_at history schema = ap (after_delete key) new_is ∙ after_delete-grown_table (table_at history schema) kept missing entry.seq (length-map (table_rows schema history) (change_number schema history)) in
      let plain : (name : Name) → schema_created name entry.act ≡ None = λ name. ap (schema_created name) is in
      let others : (other : Schema) → bytes_eq table other.name ≡ false → key_named other entry.act ≡ None = λ other differs. ap (key_named other) is ∙ rw differs in
      let last : new.last ≡ Inserted table key = inserts.remembered (table_at history schema) (stands.kept table ∙ ap (option_map (table_at history)) passed.1) in (
        stands-changed history entry table schema passed.1 (after_insert kept entry.seq) becomes plain others old new inserts.tables stands,
        record { before = λ name. ap (λ (last : Change). table_before last name (held_table new name)) last ∙ changed_back history entry table schema passed.1 (after_insert kept entry.seq) becomes plain others old new inserts.tables stands (after_delete key) again name },
      )

  pub Adds-update : (table : Name) (row : Row) → entry.act ≡ Update table row → Updates old new table row entry.seq → IsNextAct history (Update table row) → TablesStandFor old history → TablesStandFor new (history ++ entry ∷ []) × RemembersTables new history
  Adds-update table row is updates next stands =
      let passed = table_passed (schema_at history table) (λ schema. version_fits schema history (Update table row)) next in
      let schema : Schema = passed.0 in
      let key : Key = key_of schema.key row in
      let parts = and_parts (bytes_eq table schema.name && row_fits schema row) (is_live schema history key) passed.2 in
      let same = (and_parts (bytes_eq table schema.name) (row_fits schema row) parts.0).0 in
      let lives : is_live schema history key ≡ true = parts.1 in
      let kept : BornRow = record { row = row; born = born_at schema history key } in
      let kept_table : KeptTable = table_at history schema in
      let names : key_named schema entry.act ≡ Some key = ap (key_named schema) is ∙ rw same in
      let found = some_there (find_row schema.key key (table_rows schema history)) (is_live-found schema history key ∙ lives) in
      let live = old_row schema history key lives in
      let at_place : slice_get (table_rows schema history) found.0 ≡ Some live.0 = row_found schema history key found.0 found.1 ∙ live.1 in
      let before : Before = record { row = live.0.row; born = live.0.born; number = get_or kept_table.numbers found.0 0 } in
      let before_is : before_of key kept_table ≡ Some before =
      ap (option_and_then (λ place. option_map (λ (other : BornRow). record { row = other.row; born = other.born; number = get_or kept_table.numbers place 0 }) (slice_get kept_table.rows.rows place))) found.1
      ∙ ap (option_map (λ (other : BornRow). record { row = other.row; born = other.born; number = get_or kept_table.numbers found.0 0 })) at_place in
      let born : live.0.born ≡ born_at schema history key = live.2 in
      let renewed_is : renewed_table row entry.seq kept_table ≡ after_update kept entry.seq kept_table =
      ap (λ (other : Option Before). option_map_or (λ (before : Before). after_update (record { row = row; born = before.born }) entry.seq kept_table) other kept_table) before_is
      ∙ ap (λ born. after_update (record { row = row; born = born }) entry.seq kept_table) born in
      let becomes = table_at-after_update schema history entry key names kept refl (table_rows-Update schema history entry table row is same) lives ∙ sym renewed_is in
      let again : after_update (record { row = before.row; born = before.born }) before.number (renewed_table row entry.seq kept_table) ≡ kept_table =
      ap (after_update live.0 before.number) renewed_is
      ∙ after_update-after_update kept_table (IsAscending-table_rows schema history) kept found.0 found.1 entry.seq before.number live.0 (length-map (table_rows schema history) (change_number schema history)) at_place refl (key_in-born_row_at schema history key live.0 live.1) in
      let plain : (name : Name) → schema_created name entry.act ≡ None = λ name. ap (schema_created name) is in
      let others : (other : Schema) → bytes_eq table other.name ≡ false → key_named other entry.act ≡ None = λ other differs. ap (key_named other) is ∙ rw differs in
      let last : new.last ≡ Updated table before = updates.remembered kept_table before (stands.kept table ∙ ap (option_map (table_at history)) passed.1) before_is in (
        stands-changed history entry table schema passed.1 (renewed_table row entry.seq) becomes plain others old new updates.tables stands,
        record { before = λ name. ap (λ (last : Change). table_before last name (held_table new name)) last ∙ changed_back history entry table schema passed.1 (renewed_table row entry.seq) becomes plain others old new updates.tables stands (after_update (record { row = before.row; born = before.born }) before.number) again name },
      )

  pub Adds-delete : (table : Name) (key : Key) → entry.act ≡ Delete table key → Deletes old new table key → IsNextAct history (Delete table key) → TablesStandFor old history → TablesStandFor new (history ++ entry ∷ [])
  Adds-delete table key is deletes next stands =
      let passed = table_passed (schema_at history table) (λ schema. version_fits schema history (Delete table key)) next in
      let schema : Schema = passed.0 in
      let parts = and_parts (bytes_eq table schema.name && key_fits schema key) (is_live schema history key) passed.2 in
      let same = (and_parts (bytes_eq table schema.name) (key_fits schema key) parts.0).0 in
      let names : key_named schema entry.act ≡ Some key = ap (key_named schema) is ∙ rw same in
      let becomes = table_at-after_delete schema history entry key names (table_rows-Delete schema history entry table key is same) parts.1 in
      let plain : (name : Name) → schema_created name entry.act ≡ None = λ name. ap (schema_created name) is in
      let others : (other : Schema) → bytes_eq table other.name ≡ false → key_named other entry.act ≡ None = λ other differs. ap (key_named other) is ∙ rw differs in
      stands-changed history entry table schema passed.1 (after_delete key) becomes plain others old new deletes.tables stands

  pub Adds-make : (schema : Schema) → entry.act ≡ Create schema → Makes old new schema → IsNextAct history (Create schema) → TablesStandFor old history → TablesStandFor new (history ++ entry ∷ []) × RemembersTables new history
  Adds-make schema is makes next stands =
      let unmade : schema_at history schema.name ≡ None = none_here (schema_at history schema.name) (create_parts history schema next.0) in
      let rows : table_rows schema history ≡ [] = ap (filter_map (born_row_at schema history)) next.1 in
      let names : (other : Schema) → key_named other entry.act ≡ None = λ other. ap (key_named other) is in
      let empty : table_at (history ++ entry ∷ []) schema ≡ empty_table schema = table_at-other schema history entry (names schema) ∙ ap (λ rows. record { schema = schema; rows = record { key = schema.key; rows = rows }; numbers = map (change_number schema history) rows }) rows in
      let word : (name : Name) → schema_at (history ++ entry ∷ []) name ≡ option_or (then_some (bytes_eq schema.name name) schema) (schema_at history name) = λ name. last_word-append (λ entry. schema_created name entry.act) history entry ∙ ap (λ act. option_or (schema_created name act) (schema_at history name)) is in (
        record {
          kept = λ name. elim (bytes_eq schema.name name) as (λ same. bytes_eq schema.name name ≡ same → held_table new name ≡ kept_table (history ++ entry ∷ []) name) [
            | true ↦ λ e. let found : schema_at (history ++ entry ∷ []) name ≡ Some schema = word name ∙ rw e in makes.kept name ∙ rw e (ap Some (sym empty) ∙ sym (ap (option_map (table_at (history ++ entry ∷ []))) found))
            | false ↦ λ e. makes.kept name ∙ rw e (stands.kept name ∙ sym (kept_table-other history entry name (ap (schema_created name) is ∙ rw e) (λ other has. names other)))
          ] refl;
        },
        record {
          before = λ name. ap (λ (last : Change). table_before last name (held_table new name)) makes.remembered ∙ (elim (bytes_eq schema.name name) as (λ same. bytes_eq schema.name name ≡ same → (if same then None else held_table new name) ≡ kept_table history name) [
            | true ↦ λ e. sym (ap (option_map (table_at history)) (ap (schema_at history) (sym (same_name schema.name name e)) ∙ unmade))
            | false ↦ λ e. makes.kept name ∙ rw e (stands.kept name)
          ] refl);
        },
      )
