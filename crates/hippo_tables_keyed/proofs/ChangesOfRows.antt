-- The effect of an entry on a table's kept rows agrees with its effect on the rows of the history.
use Rattle.std.proofs.Common.{◌≡◌, Bool, true, false, ◌&&◌, not, [], ◌∷◌, ◌++◌, Option, Some, None, option_map, is_some, sym, ap, ◌∙◌, refl}
use Rattle.std.specs.Prelude.{option_and_then, bytes_eq}
use Rattle.std.specs.Bool.{then_some}
use Rattle.hippo_values.specs.declared.moments.Moment.{Moment}
use Rattle.hippo_model.specs.declared.born_row.BornRow.{BornRow}
use Rattle.hippo_model.specs.declared.schema.Schema.{Schema}
use Rattle.hippo_model.specs.declared.entry.Act.{Act}
use Rattle.hippo_model.specs.declared.entry.Act.TheVariants.{Insert, Update, Delete}
use Rattle.hippo_model.specs.declared.entry.Entry.{Entry}
use Rattle.hippo_model.specs.Terms.{History, Row, Key}
use Rattle.hippo_model.specs.Rows.{key_of, key_named, row_at, born_at, table_rows}
use Rattle.hippo_tables_keyed.specs.RowSets.{KeyedRows, kept_at, with_row, without_row, find_row, row_with}
use Rattle.hippo_model.specs.StoredForms.{table_changed}
use Rattle.hippo_model.specs.Versions.{is_version, row_fits, key_fits, is_live, version_fits}
use Rattle.hippo_tables_keyed.specs.Changes.{with_renewed_row, changed}
use Rattle.hippo_tables_keyed.proofs.KeptRows.{shown, is_some-option_map, is_some-find_row}
use Rattle.hippo_tables_keyed.proofs.RowsAfter.{table_rows-Insert, table_rows-Update, table_rows-Delete, table_rows-other, row_with-table_rows}

-- three tests pass in the same cases, if they agree whenever the first one holds
then_some-agrees : {A : Type 0} (named fits lives : Bool) (one other : A) → (named ≡ true → one ≡ other) → then_some (named && fits && lives) one ≡ then_some (named && fits && lives) other
then_some-agrees true fits lives one other same = ap (then_some (true && fits && lives)) (same refl)
then_some-agrees false fits lives one other same = refl

-- the same when the third test is whether a row is found, whose birth is kept
renewals_agree : (named fits : Bool) (found : Option Row) (birth : Moment) (renew : Moment → KeyedRows) (after : KeyedRows) → (named ≡ true → renew birth ≡ after) → option_and_then (λ (old : BornRow). then_some (named && fits) (renew old.born)) (option_map (λ row. record { row = row; born = birth }) found) ≡ then_some (named && fits && is_some found) after
renewals_agree true true None birth renew after same = refl
renewals_agree true false None birth renew after same = refl
renewals_agree false fits None birth renew after same = refl
renewals_agree true true (Some row) birth renew after same = ap Some (same refl)
renewals_agree true false (Some row) birth renew after same = refl
renewals_agree false fits (Some row) birth renew after same = refl

module _ (schema : Schema) where
  key_named-no_version : (act : Act) → is_version act ≡ false → key_named schema act ≡ None
  key_named-no_version (Insert table row) none = cc
  key_named-no_version (Update table row) none = cc
  key_named-no_version (Delete table key) none = cc
  key_named-no_version act none = refl

  key_named-other_table : (act : Act) → bytes_eq (table_changed act) schema.name ≡ false → key_named schema act ≡ None
  key_named-other_table (Insert table row) other = rw other
  key_named-other_table (Update table row) other = rw other
  key_named-other_table (Delete table key) other = rw other
  key_named-other_table act other = refl

  module _ (history : History) where
    -- a key is live exactly when a kept row has it
    pub is_live-kept : (key : Key) → is_some (row_with key (kept_at schema history)) ≡ is_live schema history key
    is_live-kept key =
        ap is_some (row_with-table_rows schema history key)
        ∙ is_some-option_map (λ row. record { row = row; born = born_at schema history key }) (row_at schema history key)

    -- and when a place is found for it
    pub is_live-found : (key : Key) → is_some (find_row schema.key key (table_rows schema history)) ≡ is_live schema history key
    is_live-found key = is_some-find_row schema.key key (table_rows schema history) ∙ is_live-kept key

    module _ (entry : Entry) where
      by_act : (act : Act) → entry.act ≡ act → changed schema entry.moment act (kept_at schema history) ≡ then_some (version_fits schema history act) (kept_at schema (history ++ entry ∷ []))
      by_act (Insert table row) is =
          let key = key_of schema.key row in
          let put = with_row (record { row = row; born = entry.moment }) (kept_at schema history) in
          ap (λ lives. then_some (bytes_eq table schema.name && row_fits schema row && not lives) put) (is_live-kept key)
          ∙ then_some-agrees (bytes_eq table schema.name) (row_fits schema row) (not (is_live schema history key)) put (kept_at schema (history ++ entry ∷ []))
          (λ same. ap (shown schema.key) (sym (table_rows-Insert schema history entry table row is same)))
      by_act (Update table row) is =
          let key = key_of schema.key row in
          ap (option_and_then (λ old. then_some (bytes_eq table schema.name && row_fits schema row) (with_renewed_row row (kept_at schema history) old))) (row_with-table_rows schema history key)
          ∙ renewals_agree (bytes_eq table schema.name) (row_fits schema row) (row_at schema history key) (born_at schema history key)
          (λ born. with_row (record { row = row; born = born }) (kept_at schema history)) (kept_at schema (history ++ entry ∷ []))
          (λ same. ap (shown schema.key) (sym (table_rows-Update schema history entry table row is same)))
      by_act (Delete table key) is =
          let taken = without_row key (kept_at schema history) in
          ap (λ lives. then_some (bytes_eq table schema.name && key_fits schema key && lives) taken) (is_live-kept key)
          ∙ then_some-agrees (bytes_eq table schema.name) (key_fits schema key) (is_live schema history key) taken (kept_at schema (history ++ entry ∷ []))
          (λ same. ap (shown schema.key) (sym (table_rows-Delete schema history entry table key is same)))
      by_act act is = refl

      -- an entry that is a fitting version changes the kept rows to those of the history with it;
      -- any other entry does not change them
      pub changed-kept_at : changed schema entry.moment entry.act (kept_at schema history) ≡ then_some (version_fits schema history entry.act) (kept_at schema (history ++ entry ∷ []))
      changed-kept_at = by_act entry.act refl

      -- an entry that names no key of the table does not change the kept rows
      pub kept_at-other : key_named schema entry.act ≡ None → kept_at schema (history ++ entry ∷ []) ≡ kept_at schema history
      kept_at-other names = ap (shown schema.key) (table_rows-other schema history entry names)

      -- nor does one that is no version
      pub kept_at-no_version : is_version entry.act ≡ false → kept_at schema (history ++ entry ∷ []) ≡ kept_at schema history
      kept_at-no_version none = kept_at-other (key_named-no_version entry.act none)

      -- nor one of another table
      pub kept_at-other_table : bytes_eq (table_changed entry.act) schema.name ≡ false → kept_at schema (history ++ entry ∷ []) ≡ kept_at schema history
      kept_at-other_table other = kept_at-other (key_named-other_table entry.act other)
