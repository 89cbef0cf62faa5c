-- Reading one entry, by its number, from the history that a keeper keeps.
use Rattle.std.specs.Prelude.{◌≡◌, ◌≤◌, ℕ, ◌+◌, ◌-◌, ℤ, pos, true, false, if◌then◌else◌, int_lt, nat_le, unsigned_abs, map, length, slice_get, Option, Some, None, Result, Ok, Err, IfOk}
use Rattle.std.specs.Bool.{then_some}
use Rattle.hippo_model.specs.declared.entry.Entry.{Entry}
use Rattle.hippo_model.specs.declared.stored.StoredEntry.{StoredEntry}
use Rattle.hippo_model.specs.Keepable.{is_keepable}
use Rattle.hippo_model.specs.StoredForms.{stored}
use Rattle.hippo_model.specs.Terms.{History}
use Rattle.hippo_model.specs.Versions.{versions}
use Rattle.hippo_keeper.specs.Keeping.{Store, KeeperState, IsAfterCall, KeepsSame}
use Rattle.hippo_backlog.specs.Calls as reads
use Rattle.hippo_backlog.specs.declared.faults.ReadFault.{ReadFault}
use Rattle.hippo_backlog.specs.declared.faults.ReadFault.TheVariants.{Keeper, Damaged, Memory}
use Rattle.hippo_replay.specs.declared.state.State.{State}
use Rattle.hippo_replay.specs.Standing.{Represents}
use Rattle.hippo_model.specs.HandedOver.{is_question}

-- the number as one of this many entries, or none
abbrev pub number_within : ℤ → ℕ → Option ℕ
number_within number count =
    if int_lt number (pos 1) then None else then_some (nat_le (unsigned_abs number) count)
    (unsigned_abs number)

-- the stored form is that of this entry, which can be stored and has this number
pub record IsFormOf (number : ℕ) (kept : Option StoredEntry) (entry : Entry) : Type 0 where
  pub form : kept ≡ Some (stored entry)
  pub keepable : is_keepable entry ≡ true
  pub number_is : entry.seq ≡ number

-- the first of the list is the form of this entry only; or of no entry with the number; or out of
-- memory
abbrev pub IsRead : Store → ℕ → Result Entry ReadFault → Type 0
IsRead list number (Ok entry) =
    (other : Entry) → IsFormOf number (slice_get list 0) other → entry ≡ other
IsRead list number (Err Keeper) = ⊥
IsRead list number (Err (Damaged other)) =
    (entry : Entry) → IsFormOf number (slice_get list 0) entry → ⊥
IsRead list number (Err Memory) = Unit {0}

-- the entry with a number was read, in no step if it is a question; or out of memory, or the keeper
-- failed
pub record HasReadEntry (history : History) (number : ℕ) (result : Result Entry ReadFault)
    (steps steps' : ℕ)
    : Type 0 where
  pub entry_is : IfOk result (λ entry. slice_get history (number - 1) ≡ Some entry)
  pub undamaged : (other : ℕ) → result ≡ Err (Damaged other) → ⊥
  pub few : steps' ≤ steps + versions history
  pub idle : IfOk result (λ entry. is_question entry.act ≡ true → steps' ≡ steps)

-- reading the entry with a number
pub record ReadsEntry (number : ℕ) (result : Result Entry ReadFault) (before after : KeeperState)
    (steps steps' : ℕ)
    : Type 0 where
  pub call : IsAfterCall true false (reads.reading_as_call result) before after
  pub stays : after.tells → KeepsSame before after
  pub told : after.tells → (state : State) (history : History) → map stored history ≡ before.kept
      → Represents state history → number ≤ length history
      → HasReadEntry history number result steps steps'
