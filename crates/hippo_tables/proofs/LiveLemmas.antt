-- What tables that represent a history say about a key.
use Rattle.std.proofs.Common.{◌≡◌, ℕ, true, List, map, Option, Some, None, option_map, is_some, unwrap_or, slice_get, get_or, sym, ap, ◌∙◌, refl, subst}
use Rattle.std.specs.Prelude.{option_and_then}
use Rattle.std.proofs.lemmas.List.{get_or-map}
use Rattle.std.proofs.lemmas.Option.{slice_get_within, get_or_from_slice_get}
use Rattle.hippo_values.specs.declared.names.Name.{Name}
use Rattle.hippo_values.proofs.OptionLemmas.{none_there}
use Rattle.hippo_model.specs.declared.born_row.BornRow.{BornRow}
use Rattle.hippo_model.specs.declared.schema.Schema.{Schema}
use Rattle.hippo_model.specs.Terms.{History, Row, Key}
use Rattle.hippo_model.specs.Histories.{schema_at}
use Rattle.hippo_model.specs.Rows.{row_at, last_at, born_at, table_rows}
use Rattle.hippo_tables_keyed.specs.RowSets.{find_row}
use Rattle.hippo_tables_keyed.proofs.RowsAfter.{row_with-table_rows, key_in-born_row_at}
use Rattle.hippo_tables_keyed.proofs.KeptRows.{slice_get-find_row}
use Rattle.hippo_tables_keyed.proofs.ChangesOfRows.{is_live-found}
use Rattle.hippo_tables.specs.KeptTables.{KeptTable, change_number, table_at}
use Rattle.hippo_tables.specs.Standing.{kept_table}
use Rattle.hippo_tables.specs.Finished.{live_row, live_number}
use Rattle.hippo_tables.proofs.StandingLemmas.{row_found, old_row}

row_alone : (found : Option Row) (born : Row → BornRow) → ((row : Row) → (born row).row ≡ row) → option_map (λ (kept : BornRow). kept.row) (option_map born found) ≡ found
row_alone None born same = refl
row_alone (Some row) born same = ap Some (same row)

Some-kept : (a b : KeptTable) → Some a ≡ Some b → a ≡ b
Some-kept a b e = cc

module _ (history : History) (table : Name) (key : Key) where
  row_of : (schema : Schema) → option_map (λ (kept : BornRow). kept.row) (option_and_then (slice_get (table_rows schema history)) (find_row schema.key key (table_rows schema history))) ≡ row_at schema history key
  row_of schema =
      ap (option_map (λ (kept : BornRow). kept.row)) (slice_get-find_row schema.key key (table_rows schema history) ∙ row_with-table_rows schema history key)
      ∙ row_alone (row_at schema history key) (λ row. record { row = row; born = born_at schema history key }) (λ row. refl)

  number_at : (schema : Schema) → option_map (λ place. get_or (map (change_number schema history) (table_rows schema history)) place 0) (find_row schema.key key (table_rows schema history)) ≡ option_map (λ (row : Row). unwrap_or (last_at schema history key) 0) (row_at schema history key)
  number_at schema =
      let rows : List BornRow = table_rows schema history in
      let live = is_live-found schema history key in
      elim (find_row schema.key key rows) as (λ found. find_row schema.key key rows ≡ found → option_map (λ place. get_or (map (change_number schema history) rows) place 0) found ≡ option_map (λ (row : Row). unwrap_or (last_at schema history key) 0) (row_at schema history key)) [
        | None ↦ λ e. sym (ap (option_map (λ (row : Row). unwrap_or (last_at schema history key) 0)) (none_there (row_at schema history key) (sym live ∙ ap is_some e)))
        | Some place ↦ λ e.
            let old = old_row schema history key (sym live ∙ ap is_some e) in
            let at : slice_get rows place ≡ Some old.0 = row_found schema history key place e ∙ old.1 in
            let within = slice_get_within rows place old.0 at in
            let number : get_or (map (change_number schema history) rows) place 0 ≡ unwrap_or (last_at schema history key) 0 =
            get_or-map (change_number schema history) rows place old.0 0 within
            ∙ ap (change_number schema history) (get_or_from_slice_get rows place old.0 old.0 at)
            ∙ ap (λ key. unwrap_or (last_at schema history key) 0) (key_in-born_row_at schema history key old.0 old.1) in
            ap Some number ∙ sym (some_row (row_at schema history key) (sym live ∙ ap is_some e) (unwrap_or (last_at schema history key) 0))
      ] refl
    where
      some_row : (found : Option Row) → is_some found ≡ true → (number : ℕ) → option_map (λ (row : Row). number) found ≡ Some number
      some_row None wrong number = absurd cc
      some_row (Some row) right number = refl

  pub row_live : (kept : KeptTable) → kept_table history table ≡ Some kept → option_map (λ (kept : BornRow). kept.row) (option_and_then (slice_get kept.rows.rows) (find_row kept.rows.key key kept.rows.rows)) ≡ live_row history table key
  row_live kept is =
      elim (schema_at history table) as (λ found. option_map (table_at history) found ≡ Some kept → option_map (λ (kept : BornRow). kept.row) (option_and_then (slice_get kept.rows.rows) (find_row kept.rows.key key kept.rows.rows)) ≡ option_and_then (λ schema. row_at schema history key) found) [
        | None ↦ λ is. absurd cc
        | Some schema ↦ λ is. subst (λ (kept : KeptTable). option_map (λ (kept : BornRow). kept.row) (option_and_then (slice_get kept.rows.rows) (find_row kept.rows.key key kept.rows.rows)) ≡ row_at schema history key) (Some-kept (table_at history schema) kept is) (row_of schema)
      ] is

  pub number_live : (kept : KeptTable) → kept_table history table ≡ Some kept → option_map (λ place. get_or kept.numbers place 0) (find_row kept.rows.key key kept.rows.rows) ≡ live_number history table key
  number_live kept is =
      elim (schema_at history table) as (λ found. option_map (table_at history) found ≡ Some kept → option_map (λ place. get_or kept.numbers place 0) (find_row kept.rows.key key kept.rows.rows) ≡ option_and_then (λ schema. option_map (λ (row : Row). unwrap_or (last_at schema history key) 0) (row_at schema history key)) found) [
        | None ↦ λ is. absurd cc
        | Some schema ↦ λ is. subst (λ (kept : KeptTable). option_map (λ place. get_or kept.numbers place 0) (find_row kept.rows.key key kept.rows.rows) ≡ option_map (λ (row : Row). unwrap_or (last_at schema history key) 0) (row_at schema history key)) (Some-kept (table_at history schema) kept is) (number_at schema)
      ] is
