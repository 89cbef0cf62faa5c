-- The rows of a table at a place in the history, and the later versions that wait.
use Rattle.std.specs.Prelude.{◌≡◌, ◌≢◌, ℕ, ◌+◌, ◌≤◌, Bool, true, false, ◌&&◌, List, [], ◌∷◌, ◌++◌, map, filter, length, take, Result, Err, Some, nat_lt, if◌then◌else◌, bytes_eq, OnOk, IfOk}
use Rattle.hippo_values.specs.declared.names.Name.{Name}
use Rattle.hippo_model.specs.declared.entry.Entry.{Entry}
use Rattle.hippo_model.specs.declared.schema.Schema.{Schema}
use Rattle.hippo_model.specs.declared.stored.StoredEntry.{StoredEntry}
use Rattle.hippo_model.specs.Terms.{History, Meaning, Place}
use Rattle.hippo_model.specs.Histories.{schema_at}
use Rattle.hippo_model.specs.HandedOver.{is_wanted_version, IsFit}
use Rattle.hippo_tables_keyed.specs.RowSets.{KeyedRows, kept_at}
use Rattle.hippo_model.specs.StoredForms.{table_changed, stored}
use Rattle.hippo_model.specs.Stores.{IsStoreOf}
use Rattle.hippo_model.specs.Validity.{is_valid}
use Rattle.hippo_model.specs.Versions.{is_version}
use Rattle.hippo_keeper.specs.Keeping.{Store, KeeperState}
use Rattle.hippo_keeper.specs.Selecting.{stored_versions, HandsOver}
use Rattle.hippo_keeper.specs.declared.faults.KeeperFault.{KeeperFault}
use Rattle.hippo_backlog.specs.Calls.{reading_as_call}
use Rattle.hippo_backlog.specs.ReadingAhead.{ReadAhead, nothing_read, IsAhead}
use Rattle.hippo_backlog.specs.declared.faults.ReadFault.{ReadFault}
use Rattle.hippo_backlog.specs.declared.faults.ReadFault.TheVariants.{Keeper, Damaged}

-- whether an entry is a version of a table's rows
abbrev pub is_version_of : Name → Entry → Bool
is_version_of table entry = is_version entry.act && bytes_eq (table_changed entry.act) table

abbrev pub versions_of : Name → History → History
versions_of table history = filter (is_version_of table) history

pub record HeldVersions : Type 0 where
  pub rows : KeyedRows
  pub ahead : ReadAhead
  -- the number up to which versions are applied
  pub place : ℕ

abbrev pub no_versions : List Place → HeldVersions
no_versions key = record { rows = record { key = key; rows = [] }; ahead = nothing_read; place = 0 }

-- the larger of a place and a number
abbrev pub higher_of : ℕ → ℕ → ℕ
higher_of place number = if nat_lt place number then number else place

-- the rows are those of a history's versions up to the place, and the next versions wait
pub record AreAt (schema : Schema) (history : History) (held : HeldVersions) : Type 0 where
  pub created : schema_at history schema.name ≡ Some schema
  pub split : IsAhead (is_version_of schema.name) held.place held.ahead history
  pub rows_are : held.rows ≡ kept_at schema split.used

-- whenever the old state is that of a valid history, the new state is that of the same history
abbrev pub PreservesState : Schema → HeldVersions → HeldVersions → Type 0
PreservesState schema old new =
    (meaning : Meaning) (history : History) → is_valid meaning history ≡ true
    → AreAt schema history old
    → AreAt schema history new

-- of the versions that waited and those that were handed over, the first ones are applied, up to a
-- number, and the others wait
pub record TakesInVersions (schema : Schema) (number : ℕ) (handed : Store) (old new : HeldVersions)
    : Type 0 where
  pub taken : History
  pub parts : old.ahead.waiting ++ handed ≡ map stored taken ++ new.ahead.waiting
  pub rows : (earlier : History) → old.rows ≡ kept_at schema earlier
      → new.rows ≡ kept_at schema (earlier ++ taken)
  pub key : new.rows.key ≡ old.rows.key
  pub counted : new.ahead.handed ≡ old.ahead.handed + stored_versions handed
  pub further : old.ahead.reached ≤ new.ahead.reached
  pub rises : old.place ≤ new.place
  pub limit : old.place ≤ number → new.place ≤ number

-- the entry with this number does not fit, in a list of entries that were handed over; those before
-- it are applied
pub record HasUnfit (schema : Schema) (earlier : History) (entries : Store) (place : ℕ)
    : Type 0 where
  pub taken : History
  pub entry : StoredEntry
  pub rest : Store
  pub parts : entries ≡ map stored taken ++ entry ∷ rest
  pub number_is : entry.seq ≡ place
  pub unfit : ¬ (IsFit (is_wanted_version schema 0 (earlier ++ taken)) entry)

-- `Damaged` names one of these entries, which does not fit
abbrev pub NamesUnfit : {A : Type 0} → Schema → Result A ReadFault → Store → HeldVersions → Type 0
NamesUnfit schema result entries old =
    (number : ℕ) → result ≡ Err (Damaged number) → (earlier : History)
    → old.rows ≡ kept_at schema earlier
    → HasUnfit schema earlier entries number

-- the versions that wait are applied up to a number, or up to an entry that does not fit
pub record TakesWaiting {A : Type 0} (schema : Schema) (number : ℕ) (result : Result A ReadFault)
    (old new : HeldVersions) : Type 0 where
  pub taken : TakesInVersions schema number [] old new
  pub keeps : PreservesState schema old new
  pub reached_is : new.ahead.reached ≡ old.ahead.reached
  pub damaged : NamesUnfit schema result old.ahead.waiting old
  pub undamaged : (meaning : Meaning) (history : History) → is_valid meaning history ≡ true
      → AreAt schema history old → (number : ℕ) → result ≢ Err (Damaged number)
  pub unfailed : result ≢ Err Keeper

-- batches are read and applied, with one step for each version that is handed over. If the store's
-- contents are known and the history has at least the given length, the state stays that of the
-- history.
pub record ReadsOn {A : Type 0} (schema : Schema) (number end : ℕ) (call : Result A KeeperFault)
    (old new : HeldVersions)
    (before after : KeeperState) (steps_old steps_new : ℕ) : Type 0 where
  pub handed : Store
  pub hands : HandsOver call handed before after steps_old steps_new
  pub taken : TakesInVersions schema number handed old new
  pub keeps : after.tells → (meaning : Meaning) (history : History)
      → IsStoreOf meaning before.kept history
      → end ≤ length history → AreAt schema history old → AreAt schema history new

-- the rows are moved forward to a number, or `Damaged` names an entry that does not fit; it never
-- does if the store's contents are known and are a valid history
pub record AdvancesTo {A : Type 0} (schema : Schema) (number end : ℕ) (result : Result A ReadFault)
    (old new : HeldVersions)
    (before after : KeeperState) (steps_old steps_new : ℕ) : Type 0 where
  pub reads : ReadsOn schema number end (reading_as_call result) old new before after steps_old
      steps_new
  pub place_is : OnOk result (new.place ≡ number)
  pub damaged : NamesUnfit schema result (old.ahead.waiting ++ reads.handed) old
  pub undamaged : after.tells → (meaning : Meaning) (history : History)
      → IsStoreOf meaning before.kept history
      → end ≤ length history → AreAt schema history old → (number : ℕ)
      → result ≢ Err (Damaged number)

-- the rows of a table after the first entries of the history in the store, and the steps of reading
-- them
pub record IsSnapshot (schema : Schema) (number : ℕ) (result : Result KeyedRows ReadFault)
    (history : History)
    (steps_old steps_new : ℕ) : Type 0 where
  pub rows : IfOk result (λ rows. rows ≡ kept_at schema (take number history))
  pub steps : steps_new ≤ steps_old + length (versions_of schema.name history)
  pub undamaged : (place : ℕ) → result ≢ Err (Damaged place)

-- what a snapshot reads and returns
pub record Snapshots (schema : Schema) (number : ℕ) (result : Result KeyedRows ReadFault)
    (before after : KeeperState)
    (steps_old steps_new : ℕ) : Type 0 where
  pub handed : Store
  pub hands : HandsOver (reading_as_call result) handed before after steps_old steps_new
  pub damaged : (place : ℕ) → result ≡ Err (Damaged place) → HasUnfit schema [] handed place
  pub told : after.tells → (meaning : Meaning) (history : History)
      → IsStoreOf meaning before.kept history
      → schema_at history schema.name ≡ Some schema → number ≤ length history
      → IsSnapshot schema number result history steps_old steps_new
