-- What changes of a kept table leave, and that they can be reverted.
use Rattle.std.proofs.Common.{◌≡◌, ℕ, zero, suc, ◌+◌, ◌≤◌, List, [], ◌∷◌, map, length, set, Some, None, Result, Ok, Err, OnOk, slice_get, unwrap_or, ap, ◌∙◌, refl, arith, get_or}
use Rattle.std.specs.Result.{IsOk}
use Rattle.std.specs.List.{insert, remove}
use Rattle.std.specs.Option.{option_map_or}
use Rattle.std.proofs.lemmas.Bool.{false≢true}
use Rattle.std.proofs.lemmas.List.{set-set, set-get_or}
use Rattle.hippo_model.specs.declared.born_row.BornRow.{BornRow}
use Rattle.hippo_model.specs.Terms.{Key}
use Rattle.hippo_tables_keyed.specs.RowSets.{KeyedRows, key_in, IsAscending, put_row, with_row, without_row, find_row}
use Rattle.hippo_tables.specs.KeptTables.{KeptTable, place_of_key, grown_table, after_update, after_delete}
use Rattle.hippo_tables.proofs.RowPlaces.{PutAt, PutOver, put_missing, put_found}

pub ok_from : {T E : Type 0} (r : Result T E) (P : Type 0) → IsOk r → OnOk r P → P
ok_from (Ok x) P is on = on
ok_from (Err e) P is on = absurd (false≢true is)

remove-insert : {X : Type 0} (xs : List X) (place : ℕ) (x : X) → place ≤ length xs → remove (insert xs place x) place ≡ xs
remove-insert xs zero x within = refl
remove-insert [] (suc place) x within = absurd (omega arith)
remove-insert (first ∷ rest) (suc place) x within = ap (λ rest. first ∷ rest) (remove-insert rest place x (omega arith))

-- when a new row is inserted
module _ (table : KeptTable) (kept : BornRow) (missing : find_row table.rows.key (key_in table.rows.key kept) table.rows.rows ≡ None) where
  abbrev key : Key
  key = key_in table.rows.key kept

  pub at : (place : ℕ) × PutAt table.rows.key kept table.rows.rows (put_row table.rows.key kept table.rows.rows) place
  at = put_missing table.rows.key kept table.rows.rows missing

  pub place_is : place_of_key key (with_row kept table.rows) ≡ at.0
  place_is = ap (λ found. unwrap_or found 0) at.1.found

  pub place_within : length table.numbers ≡ length table.rows.rows → place_of_key key (with_row kept table.rows) ≤ length table.numbers
  place_within aligned = omega (arith, place_is, at.1.within)

  pub rows_longer : length (put_row table.rows.key kept table.rows.rows) ≡ length table.rows.rows + 1
  rows_longer = at.1.long

  pub rows_back : without_row key (with_row kept table.rows) ≡ table.rows
  rows_back = ap (λ rows. record { key = table.rows.key; rows = rows }) at.1.taken

  pub after_delete-grown_table : (number : ℕ) → length table.numbers ≡ length table.rows.rows → after_delete key (grown_table kept number table) ≡ table
  after_delete-grown_table number aligned =
      rw at.1.found
      (ap (λ (set : KeyedRows). record { schema = table.schema; rows = set; numbers = remove (insert table.numbers at.0 number) at.0 }) rows_back
      ∙ ap (λ numbers. record { schema = table.schema; rows = table.rows; numbers = numbers }) (remove-insert table.numbers at.0 number (omega (arith, at.1.within))))

-- when a row replaces another
module _ (table : KeptTable) (ascends : IsAscending (map (key_in table.rows.key) table.rows.rows)) (kept : BornRow) (place : ℕ) (found : find_row table.rows.key (key_in table.rows.key kept) table.rows.rows ≡ Some place) where
  over : PutOver table.rows.key kept table.rows.rows (put_row table.rows.key kept table.rows.rows) place
  over = put_found table.rows.key kept table.rows.rows place ascends found

  pub rows_as_long : length (put_row table.rows.key kept table.rows.rows) ≡ length table.rows.rows
  rows_as_long = over.long

  pub after_update-after_update : (number before : ℕ) (old : BornRow) → length table.numbers ≡ length table.rows.rows → slice_get table.rows.rows place ≡ Some old → before ≡ get_or table.numbers place 0 → key_in table.rows.key old ≡ key_in table.rows.key kept → after_update old before (after_update kept number table) ≡ table
  after_update-after_update number before old aligned at is same =
      let after : KeptTable = record { schema = table.schema; rows = with_row kept table.rows; numbers = set table.numbers place number } in
      let first : after_update kept number table ≡ after = ap (λ found. option_map_or (λ place. record { schema = table.schema; rows = with_row kept table.rows; numbers = set table.numbers place number }) found table) found in
      let there : find_row table.rows.key (key_in table.rows.key old) (put_row table.rows.key kept table.rows.rows) ≡ Some place = ap (λ key. find_row table.rows.key key (put_row table.rows.key kept table.rows.rows)) same ∙ over.found in
      ap (after_update old before) first
      ∙ ap (λ found. option_map_or (λ place. record { schema = table.schema; rows = with_row old after.rows; numbers = set after.numbers place before }) found after) there
      ∙ ap (λ rows. record { schema = table.schema; rows = record { key = table.rows.key; rows = rows }; numbers = set (set table.numbers place number) place before }) (over.restored old at same)
      ∙ ap (λ numbers. record { schema = table.schema; rows = table.rows; numbers = numbers }) (set-set table.numbers place number before ∙ ap (set table.numbers place) is ∙ set-get_or table.numbers place 0)
