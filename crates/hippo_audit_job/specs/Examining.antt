-- The examiner of a logged query: what is known about it, and what it returns for one logged query.
use Rattle.std.specs.Prelude.{◌≡◌, ◌≢◌, ◌≤◌, ◌<◌, ⊤, ℕ, ◌+◌, min, true, false, nat_lt, List, [], ◌∷◌, ◌++◌, map, length, slice_index_or, bytes_eq, Option, Some, None, is_some, Result, Err, IfOk}
use Rattle.std.specs.List.{AllByRecursion, IsDistinct}
use Rattle.hippo_values.specs.Texts.{Txt}
use Rattle.hippo_values.specs.declared.names.Name.{Name}
use Rattle.hippo_model.specs.declared.audit.Audit.{Audit}
use Rattle.hippo_model.specs.declared.audit.SharedRow.{SharedRow}
use Rattle.hippo_model.specs.declared.entry.Act.TheVariants.{Asked}
use Rattle.hippo_model.specs.declared.entry.Entry.{Entry}
use Rattle.hippo_model.specs.declared.query.Query.{Query}
use Rattle.hippo_model.specs.declared.query.Ref.{Ref}
use Rattle.hippo_model.specs.Terms.{History}
use Rattle.hippo_model.specs.Histories.{before_entry, schema_at}
use Rattle.hippo_model.specs.StoredForms.{stored}
use Rattle.hippo_model.specs.Validity.{is_valid, table_passes}
use Rattle.hippo_model.specs.Verdicts.{Context}
use Rattle.hippo_model.specs.Versions.{versions}
use Rattle.hippo_model.specs.Audits.{first_serving}
use Rattle.hippo_model_laws.specs.Audits.{StandsIn}
use Rattle.hippo_keeper.specs.Keeping.{KeeperState, IsReady, IsAfterCall, KeepsSame}
use Rattle.hippo_typing_catalog.specs.Catalogs.{known_at}
use Rattle.hippo_policy.specs.Books.{BookRepresents}
use Rattle.hippo_typing.specs.Meanings.{meaning}
use Rattle.hippo_backlog.specs.declared.faults.ReadFault.{ReadFault}
use Rattle.hippo_backlog.specs.declared.faults.ReadFault.TheVariants.{Damaged}
use Rattle.hippo_backlog.specs.Calls.{reading_as_call}
use Rattle.hippo_audit_job.specs.declared.past.Past.{Past}

-- the names, the rules and choices and the length in `past` are those of this valid history
pub record IsPastOf (past : Past) (history : History) : Type 0 where
  pub valid : is_valid meaning history ≡ true
  pub names : past.catalog.now.names ≡ known_at history
  pub book : BookRepresents past.book.now history
  pub count : past.count ≡ length history

-- the column belongs to one of these tables, and that table is created
pub record IsColumnOf (history : History) (tables : List Name) (column : Ref) : Type 0 where
  pub table : column.table < length tables
  pub within : table_passes history (λ schema. nat_lt column.column (length schema.columns))
      (slice_index_or tables column.table []) ≡ true

-- the audit's tables are distinct and created, and the audited columns belong to them
pub record IsAuditOf (history : History) (audit : Audit) : Type 0 where
  pub differ : IsDistinct bytes_eq audit.tables
  pub created : AllByRecursion (λ table. is_some (schema_at history table) ≡ true) audit.tables
  pub columns : AllByRecursion (IsColumnOf history audit.tables) audit.columns

-- a count, if there is one, rises by as much as the steps
abbrev pub RisesWith : Option ℕ → Option ℕ → ℕ → ℕ → Type 0
RisesWith (Some old) (Some new) steps_old steps_new = new + steps_old ≡ old + steps_new
RisesWith None None steps_old steps_new = ⊤
RisesWith old new steps_old steps_new = ⊥

-- a count, if there is one, falls by at least as much as the steps rise
abbrev pub FallsWith : Option ℕ → Option ℕ → ℕ → ℕ → Type 0
FallsWith (Some old) (Some new) steps_old steps_new = steps_new + new ≤ steps_old + old
FallsWith None None steps_old steps_new = ⊤
FallsWith old new steps_old steps_new = ⊥

-- a count, if there is one, rises by at most a number
abbrev pub RisesWithin : Option ℕ → Option ℕ → ℕ → Type 0
RisesWithin (Some old) (Some new) number = new ≤ old + number
RisesWithin None None number = ⊤
RisesWithin old new number = ⊥

-- the sum of two counts, if there are any, is at most a number
abbrev pub AreWithin : Option ℕ → Option ℕ → ℕ → Type 0
AreWithin (Some first) (Some second) number = first + second ≤ number
AreWithin None None number = ⊤
AreWithin first second number = ⊥

-- what contracts say about an examiner. An examiner that fits a history at a number fits it at each
-- higher number, and fits each longer valid history. Its unread versions grow by at most the
-- versions that are added.
pub record Examination (X : Type 0) : Type 1 where
  pub sound : X → Type 0
  -- the last entry number that it was asked about
  pub upto : X → ℕ
  -- it may be asked, over a history, about the entries from a number on
  pub fits : X → History → ℕ → Type 0
  -- how many versions it was handed, if it counts them
  pub handed : X → Option ℕ
  -- how many versions of a history it may still be handed, if it counts them
  pub unread : X → History → Option ℕ
  pub onward : (examiner : X) (history : History) (low high : ℕ) → low ≤ high
      → fits examiner history low
      → fits examiner history high
  pub longer : (examiner : X) (history : History) (entry : Entry) (number : ℕ)
      → is_valid meaning (history ++ entry ∷ []) ≡ true → fits examiner history number
      → fits examiner (history ++ entry ∷ []) number
  pub grows : (examiner : X) (history : History) (entry : Entry) (number : ℕ)
      → is_valid meaning (history ++ entry ∷ []) ≡ true → fits examiner history number
      → RisesWithin (unread examiner history) (unread examiner (history ++ entry ∷ []))
      (versions (entry ∷ []))

-- a new examiner, which was not asked yet
pub record IsNew {X : Type 0} (terms : Examination X) (examiner : X) : Type 0 where
  pub is_sound : terms.sound examiner
  pub unasked : terms.upto examiner ≡ 0
  pub fits_each : (history : History) (number : ℕ) → is_valid meaning history ≡ true
      → terms.fits examiner history number
  pub none_handed : (count : ℕ) → terms.handed examiner ≡ Some count → count ≡ 0
  pub counted : (history : History) → is_valid meaning history ≡ true
      → AreWithin (terms.handed examiner) (terms.unread examiner history) (versions history)

-- the examiner may be asked, for an audit, about the entry with this number
pub record MayExamine {X : Type 0} (terms : Examination X) (audit : Audit) (number : ℕ)
    (examiner : X) (keeper : KeeperState) : Type 0 where
  pub ready : IsReady true keeper
  pub is_sound : terms.sound examiner
  pub order : terms.upto examiner ≤ number
  pub tables : IsDistinct bytes_eq audit.tables

-- the first virtual tuple that serves, by the entries before the logged query
abbrev pub IsServing : History → Audit → Entry → Query → Option (List SharedRow) → Type 0
IsServing past audit entry query shared =
    (user purpose recipient : Name) (text : Txt) → entry.act ≡ Asked user purpose recipient text
    → let context : Context = record {
      purpose = purpose;
      recipient = recipient;
      moment = entry.moment;
    } in
    shared ≡ first_serving past context query audit

-- the result is the first virtual tuple that serves, at the entry's own time
abbrev pub FindsServing : History → Audit → Entry → Query
    → Result (Option (List SharedRow)) ReadFault → Type 0
FindsServing history audit entry query result =
    (user purpose recipient : Name) (text : Txt) → entry.act ≡ Asked user purpose recipient text
    → meaning (before_entry entry history) text ≡ Some query
    → let context : Context = record {
      purpose = purpose;
      recipient = recipient;
      moment = entry.moment;
    } in
    IfOk result (λ shared. shared ≡ first_serving (before_entry entry history) context query audit)

-- examining a logged query over the history in the store: the examiner still fits, no entry is
-- reported as damaged, no version is read twice, and the tuple that serves is found
pub record ExaminesKept {X : Type 0} (terms : Examination X) (history : History) (audit : Audit)
    (entry : Entry)
    (query : Query) (result : Result (Option (List SharedRow)) ReadFault) (old new : X)
    (steps_old steps_new : ℕ) : Type 0 where
  pub fits_still : terms.fits new history entry.seq
  pub undamaged : (number : ℕ) → result ≢ Err (Damaged number)
  pub once : FallsWith (terms.unread old history) (terms.unread new history) steps_old steps_new
  pub finds : StandsIn meaning history entry → FindsServing history audit entry query result

-- what each call of an examiner guarantees, even if the store's contents are not known: the keeper
-- is as after a call, the examiner stays sound, and its last number is at most `number`
pub record MovesOn {A X : Type 0} (terms : Examination X) (number : ℕ) (result : Result A ReadFault)
    (old new : X)
    (before after : KeeperState) (steps_old steps_new : ℕ) : Type 0 where
  pub is_after : IsAfterCall true false (reading_as_call result) before after
  pub stays : after.tells → KeepsSame before after
  pub is_sound : terms.sound new
  pub limit : terms.upto new ≤ number
  pub ledger : RisesWith (terms.handed old) (terms.handed new) steps_old steps_new

-- a statement is true of the history in the store, if the past and the audit are those of this
-- history and the examiner fits it at the entry
abbrev pub OverKept : {X : Type 0} → Examination X → Past → Audit → Entry → X → KeeperState
    → (History → Type 0) → Type 0
OverKept terms past audit entry examiner keeper Is =
    (history : History) → map stored history ≡ keeper.kept → IsPastOf past history
    → IsAuditOf history audit → terms.fits examiner history entry.seq
    → Is history

-- what examining a logged query guarantees
pub record Examines {X : Type 0} (terms : Examination X) (past : Past) (audit : Audit)
    (entry : Entry) (query : Query)
    (result : Result (Option (List SharedRow)) ReadFault) (old new : X) (before after : KeeperState)
    (steps_old steps_new : ℕ) : Type 0 where
  pub moves : MovesOn terms entry.seq result old new before after steps_old steps_new
  pub told : after.tells → OverKept terms past audit entry old before (λ history.
      ExaminesKept terms history audit entry query result old new steps_old steps_new)

-- a count, cut off at the largest number of 64 bits
abbrev pub shown_count : ℕ → ℕ
shown_count count = min count 18446744073709551615
