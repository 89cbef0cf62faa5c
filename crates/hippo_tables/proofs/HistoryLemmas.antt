-- The tables of a history with one more entry.
use Rattle.std.proofs.Common.{◌≡◌, set, true, false, if◌then◌else◌, List, [], ◌∷◌, ◌++◌, map, Some, None, unwrap_or, sym, ap, ◌∙◌, refl, subst}
use Rattle.std.specs.Bool.{then_some}
use Rattle.std.specs.Option.{option_or, option_map_or}
use Rattle.std.specs.List.{insert, remove}
use Rattle.hippo_values.specs.Order.{same_cells}
use Rattle.hippo_values.proofs.OptionLemmas.{none_there, some_there}
use Rattle.hippo_model.specs.declared.born_row.BornRow.{BornRow}
use Rattle.hippo_model.specs.declared.schema.Schema.{Schema}
use Rattle.hippo_model.specs.declared.entry.Entry.{Entry}
use Rattle.hippo_model.specs.Terms.{History, Key}
use Rattle.hippo_model.specs.Rows.{key_named, names_key, last_at, table_rows}
use Rattle.hippo_tables_keyed.specs.RowSets.{kept_at, key_in, find_row, put_row, take_row}
use Rattle.hippo_model.specs.Versions.{is_live}
use Rattle.hippo_model.proofs.LastWords.{last_word-append}
use Rattle.hippo_tables_keyed.proofs.RowsAfter.{table_rows-other, IsAscending-table_rows}
use Rattle.hippo_tables_keyed.proofs.ChangesOfRows.{is_live-found}
use Rattle.hippo_tables.specs.KeptTables.{change_number, table_at, grown_table, after_insert, after_update, after_delete}
use Rattle.hippo_tables.proofs.RowPlaces.{same_itself, same_turned, put_missing, put_found, map_taken}

map-same : {A B : Type 0} (f g : A → B) → ((x : A) → f x ≡ g x) → (xs : List A) → map f xs ≡ map g xs
map-same f g same [] = refl
map-same f g same (x ∷ xs) = rw (same x, map-same f g same xs)

module _ (schema : Schema) (history : History) (entry : Entry) where
  last_at-append : (key : Key) → last_at schema (history ++ entry ∷ []) key ≡ (if names_key schema key entry.act then Some entry.seq else last_at schema history key)
  last_at-append key =
      last_word-append (λ entry. then_some (names_key schema key entry.act) entry.seq) history entry
      ∙ (elim (names_key schema key entry.act) as (λ names. option_or (then_some names entry.seq) (last_at schema history key) ≡ (if names then Some entry.seq else last_at schema history key)) [ true ↦ refl | false ↦ refl ])

  -- an entry that names no key of the table does not change its numbers
  change_number-other : key_named schema entry.act ≡ None → (kept : BornRow) → change_number schema (history ++ entry ∷ []) kept ≡ change_number schema history kept
  change_number-other names kept =
      let same : last_at schema (history ++ entry ∷ []) (key_in schema.key kept) ≡ last_at schema history (key_in schema.key kept) = last_at-append (key_in schema.key kept) ∙ rw names in
      ap (λ last. unwrap_or last 0) same

  pub table_at-other : key_named schema entry.act ≡ None → table_at (history ++ entry ∷ []) schema ≡ table_at history schema
  table_at-other names =
      ap (λ rows. record { schema = schema; rows = record { key = schema.key; rows = rows }; numbers = map (change_number schema (history ++ entry ∷ [])) rows }) (table_rows-other schema history entry names)
      ∙ ap (λ numbers. record { schema = schema; rows = kept_at schema history; numbers = numbers }) (map-same (change_number schema (history ++ entry ∷ [])) (change_number schema history) (change_number-other names) (table_rows schema history))

  module _ (key : Key) (names : key_named schema entry.act ≡ Some key) where
    number_here : (kept : BornRow) → key_in schema.key kept ≡ key → change_number schema (history ++ entry ∷ []) kept ≡ entry.seq
    number_here kept has_key =
        let here : last_at schema (history ++ entry ∷ []) (key_in schema.key kept) ≡ Some entry.seq = last_at-append (key_in schema.key kept) ∙ rw (names, has_key, same_itself key) in
        ap (λ last. unwrap_or last 0) here

    number_there : (kept : BornRow) → same_cells (key_in schema.key kept) key ≡ false → change_number schema (history ++ entry ∷ []) kept ≡ change_number schema history kept
    number_there kept other =
        let same : last_at schema (history ++ entry ∷ []) (key_in schema.key kept) ≡ last_at schema history (key_in schema.key kept) = last_at-append (key_in schema.key kept) ∙ rw (names, same_turned key (key_in schema.key kept), other) in
        ap (λ last. unwrap_or last 0) same

    -- a row with a new key
    pub table_at-grown_table : (kept : BornRow) → key_in schema.key kept ≡ key → table_rows schema (history ++ entry ∷ []) ≡ put_row schema.key kept (table_rows schema history) → is_live schema history key ≡ false → table_at (history ++ entry ∷ []) schema ≡ after_insert kept entry.seq (table_at history schema)
    table_at-grown_table kept has_key rows gone =
        let missing : find_row schema.key (key_in schema.key kept) (table_rows schema history) ≡ None = ap (λ key. find_row schema.key key (table_rows schema history)) has_key ∙ none_there (find_row schema.key key (table_rows schema history)) (is_live-found schema history key ∙ gone) in
        let at = put_missing schema.key kept (table_rows schema history) missing in
        ap (λ rows. record { schema = schema; rows = record { key = schema.key; rows = rows }; numbers = map (change_number schema (history ++ entry ∷ [])) rows }) rows
        ∙ ap (λ numbers. record { schema = schema; rows = record { key = schema.key; rows = put_row schema.key kept (table_rows schema history) }; numbers = numbers })
        (at.1.mapped entry.seq (change_number schema history) (change_number schema (history ++ entry ∷ [])) (number_here kept has_key) (λ other differs. number_there other (subst (λ (key : Key). same_cells (key_in schema.key other) key ≡ false) has_key differs))
        ∙ ap (λ place. insert (map (change_number schema history) (table_rows schema history)) place entry.seq) (sym (ap (λ found. unwrap_or found 0) at.1.found)))
        ∙ sym (ap (λ found. option_map_or (λ place. table_at history schema) found (grown_table kept entry.seq (table_at history schema))) missing)

    -- a row that replaces another
    pub table_at-after_update : (kept : BornRow) → key_in schema.key kept ≡ key → table_rows schema (history ++ entry ∷ []) ≡ put_row schema.key kept (table_rows schema history) → is_live schema history key ≡ true → table_at (history ++ entry ∷ []) schema ≡ after_update kept entry.seq (table_at history schema)
    table_at-after_update kept has_key rows lives =
        let there = some_there (find_row schema.key key (table_rows schema history)) (is_live-found schema history key ∙ lives) in
        let found : find_row schema.key (key_in schema.key kept) (table_rows schema history) ≡ Some there.0 = ap (λ key. find_row schema.key key (table_rows schema history)) has_key ∙ there.1 in
        let over = put_found schema.key kept (table_rows schema history) there.0 (IsAscending-table_rows schema history) found in
        ap (λ rows. record { schema = schema; rows = record { key = schema.key; rows = rows }; numbers = map (change_number schema (history ++ entry ∷ [])) rows }) rows
        ∙ ap (λ numbers. record { schema = schema; rows = record { key = schema.key; rows = put_row schema.key kept (table_rows schema history) }; numbers = numbers })
        (over.mapped entry.seq (change_number schema history) (change_number schema (history ++ entry ∷ [])) (number_here kept has_key) (λ other differs. number_there other (subst (λ (key : Key). same_cells (key_in schema.key other) key ≡ false) has_key differs)))
        ∙ sym (ap (λ found. option_map_or (λ place. record { schema = schema; rows = record { key = schema.key; rows = put_row schema.key kept (table_rows schema history) }; numbers = set (map (change_number schema history) (table_rows schema history)) place entry.seq }) found (table_at history schema)) found)

    -- a row less
    pub table_at-after_delete : table_rows schema (history ++ entry ∷ []) ≡ take_row schema.key key (table_rows schema history) → is_live schema history key ≡ true → table_at (history ++ entry ∷ []) schema ≡ after_delete key (table_at history schema)
    table_at-after_delete rows lives =
        let there = some_there (find_row schema.key key (table_rows schema history)) (is_live-found schema history key ∙ lives) in
        ap (λ rows. record { schema = schema; rows = record { key = schema.key; rows = rows }; numbers = map (change_number schema (history ++ entry ∷ [])) rows }) rows
        ∙ ap (λ numbers. record { schema = schema; rows = record { key = schema.key; rows = take_row schema.key key (table_rows schema history) }; numbers = numbers })
        (map_taken schema.key key (change_number schema history) (change_number schema (history ++ entry ∷ [])) number_there (table_rows schema history) there.0 (IsAscending-table_rows schema history) there.1)
        ∙ sym (ap (λ found. option_map_or (λ place. record { schema = schema; rows = record { key = schema.key; rows = take_row schema.key key (table_rows schema history) }; numbers = remove (map (change_number schema history) (table_rows schema history)) place }) found (table_at history schema)) there.1)
