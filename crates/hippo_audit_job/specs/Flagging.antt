-- The flag of the first logged query that waits.
use Rattle.std.specs.Prelude.{◌≡◌, ◌≤◌, ℕ, List, slice_get, Option, Some, None, option_and_then, Result, Ok, Err}
use Rattle.std.specs.Result.{result_map_both}
use Rattle.hippo_model.specs.declared.audit.Audit.{Audit}
use Rattle.hippo_model.specs.declared.audit.Flag.{Flag}
use Rattle.hippo_model.specs.declared.audit.SharedRow.{SharedRow}
use Rattle.hippo_model.specs.declared.entry.Entry.{Entry}
use Rattle.hippo_model.specs.declared.stored.StoredEntry.{StoredEntry}
use Rattle.hippo_model.specs.Audits.{flag_by}
use Rattle.hippo_entry.specs.Forms.{IsEntryOf}
use Rattle.hippo_keeper.specs.Keeping.{KeeperState}
use Rattle.hippo_backlog.specs.declared.faults.ReadFault.{ReadFault}
use Rattle.hippo_backlog.specs.ReadingAhead.{ReadAhead, BeginsAbove}
use Rattle.hippo_audit_job.specs.declared.past.Past.{Past}
use Rattle.hippo_audit_job.specs.Examining.{Examination}
use Rattle.hippo_audit_job.specs.Looking.{IsDecoded, LooksAt}

-- the first stored entry that waits decodes to this entry
pub record IsFirstWaiting (ahead : ReadAhead) (entry : Entry) : Type 0 where
  pub kept : StoredEntry
  pub stands : slice_get ahead.waiting 0 ≡ Some kept
  pub form : IsEntryOf kept (Some entry)

-- the first stored entry that waits cannot be decoded: it is not the stored form of an entry, or
-- memory ran out
pub record IsUndecoded (ahead : ReadAhead) (fault : ReadFault) : Type 0 where
  pub kept : StoredEntry
  pub stands : slice_get ahead.waiting 0 ≡ Some kept
  pub undecoded : IsDecoded kept (Err fault)

-- the first entry that waits is found if its number is at most this. Otherwise none waits up to
-- this number, or its stored form cannot be decoded.
abbrev pub IsFirstUpTo : ℕ → ReadAhead → Result (Option Entry) ReadFault → Type 0
IsFirstUpTo number ahead (Ok (Some entry)) = IsFirstWaiting ahead entry × (entry.seq ≤ number)
IsFirstUpTo number ahead (Ok None) = BeginsAbove number ahead.waiting
IsFirstUpTo number ahead (Err fault) = IsUndecoded ahead fault

-- looking at an entry finds its flag, if it has a shared tuple
pub record FindsFlag {X : Type 0} (terms : Examination X) (past : Past) (audit : Audit)
    (entry : Entry)
    (result : Result (Option Flag) ReadFault) (old new : X) (before after : KeeperState)
    (steps_old steps_new : ℕ) : Type 0 where
  pub shares : Result (Option (List SharedRow)) ReadFault
  pub looks : LooksAt terms past audit entry shares old new before after steps_old steps_new
  pub found : result ≡ result_map_both (option_and_then (flag_by entry entry.act))
      (λ fault. fault) shares
