-- The effect of a version on rows, by the tests that the code makes.
use Rattle.std.proofs.Common.{◌≡◌, ◌∙◌, sym, ap, refl, ℕ, Bool, true, false, ◌&&◌, not, List, Option, Some, None, Result, Ok, Err, OnOk}
use Rattle.std.specs.Prelude.{is_some, option_map, option_and_then, slice_get, bytes_eq}
use Rattle.std.specs.Bool.{then_some}
use Rattle.hippo_values.specs.declared.memory.Memory.{Memory}
use Rattle.hippo_values.specs.declared.moments.Moment.{Moment}
use Rattle.hippo_values.specs.declared.names.Name.{Name}
use Rattle.hippo_model.specs.declared.born_row.BornRow.{BornRow}
use Rattle.hippo_model.specs.declared.entry.Act.TheVariants.{Insert, Update, Delete}
use Rattle.hippo_model.specs.declared.entry.Entry.{Entry}
use Rattle.hippo_model.specs.declared.schema.Schema.{Schema}
use Rattle.hippo_model.specs.declared.stored.StoredEntry.{StoredEntry}
use Rattle.hippo_model.specs.Terms.{Row, Key, Place}
use Rattle.hippo_tables_keyed.specs.Changes.{with_renewed_row, changed}
use Rattle.hippo_model.specs.Rows.{key_of}
use Rattle.hippo_tables_keyed.specs.RowSets.{KeyedRows, with_row, without_row, find_row, row_with}
use Rattle.hippo_model.specs.Versions.{row_fits, key_fits}
use Rattle.hippo_tables_keyed.proofs.KeptRows.{slice_get-find_row, is_some-find_row}
use Rattle.hippo_entry.specs.Forms.{IsEntryOf}
use Rattle.hippo_backlog.specs.declared.faults.ReadFault.TheVariants.{Damaged}
use Rattle.hippo_backlog.specs.Taking.{put_with, Becomes, result_of_fit, AppliesVersion}
use Rattle.hippo_keeper.proofs.Results.{err_of}

-- a place is found exactly when there is a row
pub found_live : (rows : KeyedRows) (key : Key) (found : Option Place) → found ≡ find_row rows.key key rows.rows → is_some found ≡ is_some (row_with key rows)
found_live rows key found is = ap is_some is ∙ is_some-find_row rows.key key rows.rows

-- the birth of the row at the place that was found
pub birth_none : (rows : KeyedRows) (key : Key) → None ≡ find_row rows.key key rows.rows → None ≡ option_map (λ (kept : BornRow). kept.born) (row_with key rows)
birth_none rows key is = ap (λ (found : Option Place). option_map (λ (kept : BornRow). kept.born) (option_and_then (slice_get rows.rows) found)) is ∙ ap (option_map (λ (kept : BornRow). kept.born)) (slice_get-find_row rows.key key rows.rows)

pub birth_some : (rows : KeyedRows) (key : Key) (place : Place) (born : Moment) → Some place ≡ find_row rows.key key rows.rows → option_map (λ (kept : BornRow). kept.born) (slice_get rows.rows place) ≡ Some born → Some born ≡ option_map (λ (kept : BornRow). kept.born) (row_with key rows)
birth_some rows key place born is there =
    sym there ∙ ap (λ (found : Option Place). option_map (λ (kept : BornRow). kept.born) (option_and_then (slice_get rows.rows) found)) is
    ∙ ap (option_map (λ (kept : BornRow). kept.born)) (slice_get-find_row rows.key key rows.rows)

module _ (schema : Schema) (moment : Moment) (table : Name) (old : KeyedRows) (key_is : old.key ≡ schema.key) where
  -- an insert puts a row whose birth is its moment, if its key is not live
  by_newness : (row : Row) (fits new : Bool) → then_some (fits && new) (with_row (record { row = row; born = moment }) old) ≡ option_and_then (λ (born : Moment). then_some fits (with_row (record { row = row; born = born }) old)) (then_some new moment)
  by_newness row true true = refl
  by_newness row true false = refl
  by_newness row false true = refl
  by_newness row false false = refl

  pub insert_puts : (row : Row) (birth : Option Moment) → birth ≡ then_some (not (is_some (row_with (key_of old.key row) old))) moment → changed schema moment (Insert table row) old ≡ put_with schema table row birth old
  insert_puts row birth birth_is =
      let found : birth ≡ then_some (not (is_some (row_with (key_of schema.key row) old))) moment = birth_is ∙ ap (λ (places : List Place). then_some (not (is_some (row_with (key_of places row) old))) moment) key_is in
      by_newness row (bytes_eq table schema.name && row_fits schema row) (not (is_some (row_with (key_of schema.key row) old)))
      ∙ ap (λ (b : Option Moment). put_with schema table row b old) (sym found)

  -- a delete
  pub deleted : (key : Key) (fits lives : Bool) → fits ≡ (bytes_eq table schema.name && key_fits schema key) → lives ≡ is_some (row_with key old) → changed schema moment (Delete table key) old ≡ then_some (fits && lives) (without_row key old)
  deleted key fits lives fits_is lives_is = λ i. then_some (sym fits_is i && sym lives_is i) (without_row key old)

  -- an update, by the birth of the row that has its key
  by_birth : (row : Row) (named : Bool) (found : Option BornRow) → option_and_then (λ (was : BornRow). then_some named (with_renewed_row row old was)) found ≡ option_and_then (λ (born : Moment). then_some named (with_row (record { row = row; born = born }) old)) (option_map (λ (kept : BornRow). kept.born) found)
  by_birth row named None = refl
  by_birth row named (Some was) = refl

  pub update_puts : (row : Row) (birth : Option Moment) → birth ≡ option_map (λ (kept : BornRow). kept.born) (row_with (key_of old.key row) old) → changed schema moment (Update table row) old ≡ put_with schema table row birth old
  update_puts row birth birth_is =
      let found : birth ≡ option_map (λ (kept : BornRow). kept.born) (row_with (key_of schema.key row) old) = birth_is ∙ ap (λ (places : List Place). option_map (λ (kept : BornRow). kept.born) (row_with (key_of places row) old)) key_is in
      by_birth row (bytes_eq table schema.name && row_fits schema row) (row_with (key_of schema.key row) old)
      ∙ ap (λ (b : Option Moment). put_with schema table row b old) (sym found)

-- the row was put, or memory ran out
pub becomes_put : (after : Option KeyedRows) (old put new : KeyedRows) (result : Result (Unit {0}) Memory) → after ≡ Some put → OnOk result (new ≡ put) → result ≡ Ok tt → after ≡ Some new
becomes_put after old put new (Ok done) is made e = is ∙ ap Some (sym made)
becomes_put after old put new (Err memory) is made e = absurd cc

-- the result of applying an entry
pub taken_by : (schema : Schema) (kept : StoredEntry) (entry : Entry) (change : Result Bool Memory) (old new : KeyedRows) → IsEntryOf kept (Some entry) → Becomes (changed schema entry.moment entry.act old) change old new → AppliesVersion {A = Unit {0}} schema kept (result_of_fit kept.seq change) old new
taken_by schema kept entry (Ok true) old new found becomes = record {
  ok = record { entry = entry; form = found.sound; change = becomes };
  err = tt;
  number = λ number is. absurd cc;
  damaged = λ number is. absurd cc;
  unfailed = λ is. absurd cc;
}
taken_by schema kept entry (Ok false) old new found becomes = record {
  ok = tt;
  err = becomes.1;
  number = λ number is. number_of is;
  damaged = λ number is other form.
      let same : entry ≡ other = some_is (found.only other form) in
      ap (λ (e : Entry). changed schema e.moment e.act old) (sym same) ∙ becomes.0;
  unfailed = λ is. absurd cc;
}
  where
    some_is : {x y : Entry} → Some x ≡ Some y → x ≡ y
    some_is e = cc

    number_of : {number : ℕ} → err_of (Unit {0}) (Damaged kept.seq) ≡ Err (Damaged number) → number ≡ kept.seq
    number_of e = cc
taken_by schema kept entry (Err memory) old new found becomes = record {
  ok = tt;
  err = becomes;
  number = λ number is. absurd cc;
  damaged = λ number is. absurd cc;
  unfailed = λ is. absurd cc;
}

-- no entry has this stored form
pub none_has : (schema : Schema) (kept : StoredEntry) (rows : KeyedRows) → IsEntryOf kept None → AppliesVersion {A = Unit {0}} schema kept (Err (Damaged kept.seq)) rows rows
none_has schema kept rows found = record {
  ok = tt;
  err = refl;
  number = λ number is. number_of is;
  damaged = λ number is other form. absurd (none_is (found.only other form));
  unfailed = λ is. absurd cc;
}
  where
    none_is : {x : Entry} → None ≡ Some x → ⊥
    none_is e = cc

    number_of : {number : ℕ} → err_of (Unit {0}) (Damaged kept.seq) ≡ Err (Damaged number) → number ≡ kept.seq
    number_of e = cc
