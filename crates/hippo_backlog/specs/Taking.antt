-- The result of applying a version to a table's rows.
use Rattle.std.specs.Prelude.{◌≡◌, ◌≢◌, ◌&&◌, ℕ, Bool, true, false, Result, Ok, Err, Option, Some, None, OnOk, OnErr, option_and_then, bytes_eq}
use Rattle.std.specs.Bool.{then_some}
use Rattle.hippo_values.specs.declared.memory.Memory.{Memory}
use Rattle.hippo_values.specs.declared.moments.Moment.{Moment}
use Rattle.hippo_values.specs.declared.names.Name.{Name}
use Rattle.hippo_model.specs.declared.entry.Entry.{Entry}
use Rattle.hippo_model.specs.declared.schema.Schema.{Schema}
use Rattle.hippo_model.specs.declared.stored.StoredEntry.{StoredEntry}
use Rattle.hippo_model.specs.Terms.{Row}
use Rattle.hippo_model.specs.Versions.{row_fits}
use Rattle.hippo_tables_keyed.specs.RowSets.{KeyedRows, with_row}
use Rattle.hippo_tables_keyed.specs.Changes.{changed}
use Rattle.hippo_entry.specs.Forms.{HasForm}
use Rattle.hippo_backlog.specs.declared.faults.ReadFault.{ReadFault}
use Rattle.hippo_backlog.specs.declared.faults.ReadFault.TheVariants.{Keeper, Damaged}
use Rattle.hippo_backlog.specs.declared.faults.ReadFault.TheVariants as read_faults

-- the rows with this row and birth put in, in which it replaces the row with its key; `None` if
-- there is no birth or the row does not fit the table
abbrev pub put_with : Schema → Name → Row → Option Moment → KeyedRows → Option KeyedRows
put_with schema table row birth kept =
    option_and_then (λ born. then_some (bytes_eq table schema.name && row_fits schema row)
    (with_row (record { row = row; born = born }) kept)) birth

-- the rows become the result of a change; or there is no such change, or memory ran out, and they
-- stay the same
abbrev pub Becomes : Option KeyedRows → Result Bool Memory → KeyedRows → KeyedRows → Type 0
Becomes after (Ok true) old new = after ≡ Some new
Becomes after (Ok false) old new = (after ≡ None) × (new ≡ old)
Becomes after (Err memory) old new = new ≡ old

-- the result of applying the entry with a number, by whether it fits
abbrev pub result_of_fit : ℕ → Result Bool Memory → Result (Unit {0}) ReadFault
result_of_fit number (Ok true) = Ok tt
result_of_fit number (Ok false) = Err (Damaged number)
result_of_fit number (Err memory) = Err read_faults.Memory

-- the entry that this stored form decodes to has changed the rows
pub record HasApplied (schema : Schema) (kept : StoredEntry) (old new : KeyedRows) : Type 0 where
  pub entry : Entry
  pub form : HasForm kept entry
  pub change : changed schema entry.moment entry.act old ≡ Some new

-- a stored entry is applied to the rows, or no entry with this stored form changes them
pub record AppliesVersion {A : Type 0} (schema : Schema) (kept : StoredEntry)
    (result : Result A ReadFault)
    (old new : KeyedRows) : Type 0 where
  pub ok : OnOk result (HasApplied schema kept old new)
  pub err : OnErr result (new ≡ old)
  pub number : (number : ℕ) → result ≡ Err (Damaged number) → number ≡ kept.seq
  pub damaged : (number : ℕ) → result ≡ Err (Damaged number) → (entry : Entry) → HasForm kept entry
      → changed schema entry.moment entry.act old ≡ None
  pub unfailed : result ≢ Err Keeper
