-- Looking at one logged query, and at the logged queries that are read ahead.
use Rattle.std.specs.Prelude.{◌≡◌, ◌≢◌, ◌≤◌, ◌<◌, ℕ, true, false, Bool, ◌&&◌, List, length, Option, Some, None, Result, Ok, Err, IfOk, OnOk, ⊤}
use Rattle.std.specs.Bool.{then_some}
use Rattle.hippo_values.specs.Texts.{Txt}
use Rattle.hippo_values.specs.declared.names.Name.{Name}
use Rattle.hippo_model.specs.declared.audit.Audit.{Audit}
use Rattle.hippo_model.specs.declared.audit.SharedRow.{SharedRow}
use Rattle.hippo_model.specs.declared.entry.Act.{Act}
use Rattle.hippo_model.specs.declared.entry.Act.TheVariants.{Asked}
use Rattle.hippo_model.specs.declared.entry.Entry.{Entry}
use Rattle.hippo_model.specs.declared.query.Query.{Query}
use Rattle.hippo_model.specs.declared.stored.StoredEntry.{StoredEntry}
use Rattle.hippo_model.specs.Terms.{History}
use Rattle.hippo_model.specs.HandedOver.{is_question}
use Rattle.hippo_model.specs.Columns.{names_all}
use Rattle.hippo_model.specs.Stores.{IsStoreOf}
use Rattle.hippo_model.specs.Audits.{in_period, shared_tuple}
use Rattle.hippo_model_laws.specs.Audits.{StandsIn}
use Rattle.hippo_entry.specs.Forms.{IsEntryOf}
use Rattle.hippo_keeper.specs.Keeping.{KeeperState, IsAfterCall, RisesAbove, last_number, KeepsSame}
use Rattle.hippo_typing.specs.Meanings.{meaning_in, meaning}
use Rattle.hippo_backlog.specs.declared.faults.ReadFault.{ReadFault}
use Rattle.hippo_backlog.specs.declared.faults.ReadFault.TheVariants.{Keeper, Damaged, Memory}
use Rattle.hippo_backlog.specs.Calls.{reading_as_call}
use Rattle.hippo_backlog.specs.ReadingAhead.{ReadAhead, IsAhead}
use Rattle.hippo_audit_job.specs.declared.past.Past.{Past}
use Rattle.hippo_audit_job.specs.Examining.{Examination, MovesOn, FallsWith, OverKept}

-- the purpose, the recipient and the text of a logged query
abbrev pub question_parts : Act → Option (Name × Name × Txt)
question_parts (Asked user purpose recipient text) = Some (purpose, recipient, text)
question_parts act = None

-- a stored entry is decoded, or it is not the stored form of an entry
abbrev pub IsDecoded : StoredEntry → Result Entry ReadFault → Type 0
IsDecoded kept (Ok entry) = IsEntryOf kept (Some entry)
IsDecoded kept (Err (Damaged number)) = IsEntryOf kept None × (number ≡ kept.seq)
IsDecoded kept (Err Memory) = ⊤
IsDecoded kept (Err Keeper) = ⊥

-- the query that a text means now, if it names every audited column; a fault if the text means
-- nothing
abbrev pub IsCandidateOf : Past → Audit → Txt → Result (Option Query) ReadFault → Type 0
IsCandidateOf past audit text (Ok found) =
    (query : Query) × (meaning_in past.catalog.now.names text ≡ Some query)
    × (found ≡ then_some (names_all query audit) query)
IsCandidateOf past audit text (Err (Damaged number)) =
    meaning_in past.catalog.now.names text ≡ None
IsCandidateOf past audit text (Err Memory) = ⊤
IsCandidateOf past audit text (Err Keeper) = ⊥

-- whether an entry is a logged query of an audit's period
abbrev pub is_question_in_period : Audit → Entry → Bool
is_question_in_period audit entry = is_question entry.act && in_period audit entry.moment

-- an entry of a valid history that is a logged query of the audit's period
pub record IsQuestionOf (history : History) (audit : Audit) (entry : Entry) : Type 0 where
  pub stands : StandsIn meaning history entry
  pub asked : is_question_in_period audit entry ≡ true

-- looking at a logged query over the history in the store: the examiner still fits, no version is
-- read twice, and the shared tuple is found
pub record LooksAtKept {X : Type 0} (terms : Examination X) (history : History) (audit : Audit)
    (entry : Entry)
    (result : Result (Option (List SharedRow)) ReadFault) (old new : X) (steps_old steps_new : ℕ)
    : Type 0 where
  pub fits_still : terms.fits new history entry.seq
  pub once : FallsWith (terms.unread old history) (terms.unread new history) steps_old steps_new
  pub undamaged : IsQuestionOf history audit entry → (number : ℕ) → result ≢ Err (Damaged number)
  pub finds : IsQuestionOf history audit entry
      → IfOk result (λ found. found ≡ shared_tuple meaning history audit entry)

-- what looking at a logged query guarantees
pub record LooksAt {X : Type 0} (terms : Examination X) (past : Past) (audit : Audit)
    (entry : Entry)
    (result : Result (Option (List SharedRow)) ReadFault) (old new : X) (before after : KeeperState)
    (steps_old steps_new : ℕ) : Type 0 where
  pub moves : MovesOn terms entry.seq result old new before after steps_old steps_new
  pub told : after.tells → OverKept terms past audit entry old before (λ history.
      LooksAtKept terms history audit entry result old new steps_old steps_new)

-- a batch of the logged queries of an audit's period is read; nothing waited before
pub record ReadsAhead {A : Type 0} (audit : Audit) (end : ℕ) (result : Result A ReadFault)
    (old new : ReadAhead)
    (before after : KeeperState) : Type 0 where
  pub is_after : IsAfterCall true false (reading_as_call result) before after
  pub stays : after.tells → KeepsSame before after
  pub order : RisesAbove old.reached new.waiting
  pub last : last_number old.reached new.waiting ≤ new.reached
  pub onward : OnOk result (old.reached < end → old.reached < new.reached)
  pub undamaged : (number : ℕ) → result ≢ Err (Damaged number)
  pub told : after.tells → (history : History) → IsStoreOf meaning before.kept history
      → end ≤ length history
      → (place : ℕ) → IsAhead (is_question_in_period audit) place old history
      → IsAhead (is_question_in_period audit) place new history
