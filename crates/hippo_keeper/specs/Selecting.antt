-- What the reads of a keeper return.
use Rattle.std.specs.Prelude.{◌≡◌, ℕ, ◌+◌, ◌≤◌, Bool, true, false, ◌&&◌, ◌||◌, ◌==◌, length, filter, take, count_by, nat_lt, int_le, bytes_eq, Result, Ok, Err, IfOk}
use Rattle.hippo_values.specs.declared.moments.Moment.{Moment}
use Rattle.hippo_values.specs.declared.names.Name.{Name}
use Rattle.hippo_model.specs.declared.stored.StoredEntry.{StoredEntry}
use Rattle.hippo_keeper.specs.Keeping.{Store, RisesAbove, KeeperState, IsAfterCall, Stays, KeepsSame}
use Rattle.hippo_keeper.specs.declared.faults.KeeperFault.{KeeperFault}
use Rattle.hippo_keeper.specs.declared.selection.Selection.{Selection}
use Rattle.hippo_keeper.specs.declared.selection.Selection.TheVariants.{All, VersionsOf, AskedIn}

-- the entry is an insert, an update or a delete
abbrev pub is_stored_version : StoredEntry → Bool
is_stored_version entry = entry.kind == 2 || entry.kind == 3 || entry.kind == 4

abbrev pub is_stored_version_of : Name → StoredEntry → Bool
is_stored_version_of table entry = is_stored_version entry && bytes_eq entry.table table

-- the entry is a question, and its moment is in the period, both ends included
abbrev pub was_asked_in : Moment → Moment → StoredEntry → Bool
was_asked_in from to entry = entry.kind == 13 && int_le from entry.moment && int_le entry.moment to

abbrev pub is_any : StoredEntry → Bool
is_any entry = true

-- the first `max` stored entries with a number above `after` that pass a test
abbrev pub selected_entries : (StoredEntry → Bool) → ℕ → ℕ → Store → Store
selected_entries test after max kept =
    take max (filter test (filter (λ entry. nat_lt after entry.seq) kept))

-- how many of the entries are versions
abbrev pub stored_versions : Store → ℕ
stored_versions list = count_by is_stored_version list

-- how many steps a read takes: one for each version that it returns
abbrev pub versions_read : Result Store KeeperFault → ℕ
versions_read (Ok list) = stored_versions list
versions_read (Err fault) = 0

-- a call that only reads: it changes nothing that is stored, and takes one step for each version
-- that it returns
pub record HandsOver {A : Type 0} (result : Result A KeeperFault) (handed : Store)
    (before after : KeeperState) (steps_old steps_new : ℕ) : Type 0 where
  pub call : IsAfterCall true false result before after
  pub stays : after.tells → KeepsSame before after
  pub steps : steps_new ≡ steps_old + stored_versions handed

-- the list that a read answers: exactly the list that was asked for if the store's contents are
-- known, and always at most `max` entries above `after`, ordered by number
pub record IsHandedOver (tells : Type 0) (test : StoredEntry → Bool) (after max : ℕ)
    (kept list : Store) : Type 0 where
  pub told : tells → list ≡ selected_entries test after max kept
  pub few : length list ≤ max
  pub order : RisesAbove after list

-- what a read does: it changes nothing that is stored, and answers what was asked for
pub record ReadsEntries (test : StoredEntry → Bool) (after max : ℕ)
    (result : Result Store KeeperFault)
    (old new : KeeperState) : Type 0 where
  pub call : IsAfterCall true false result old new
  pub stays : new.tells → Stays old new
  pub ok : IfOk result (IsHandedOver new.tells test after max old.kept)

-- the test that selects the entries of a read
abbrev pub is_selected : Selection → StoredEntry → Bool
is_selected All = is_any
is_selected (VersionsOf table) = is_stored_version_of table.now
is_selected (AskedIn from to) = was_asked_in from to
