-- What holds of the program's host when the program that shows a history ends.
use Rattle.std.specs.Prelude.{◌≡◌, ◌≢◌, ◌⊎◌, ◌≤◌, ◌+◌, ◌*◌, ℕ, Bool, true, false, List, Some, None}
use Rattle.hippo_values.specs.Texts.{Txt}
use Rattle.hippo_io.specs.Faults.{HasRisen}
use Rattle.hippo_io.specs.Told.{Appends, AppendsFront}
use Rattle.hippo_keeper.specs.Selecting.{stored_versions}
use Rattle.hippo_keeper.specs.Telling.{TellsOnceStarted}
use Rattle.hippo_program_start.specs.Hosts.{HostState, IsUnread, IsSilent, IsSameKeeper}
use Rattle.hippo_program_start.specs.Statuses.{AnswersAmong, ReportsFault}
use Rattle.hippo_program_args.specs.Starting.{IsIdle}
use Rattle.hippo_history_top.specs.declared.asking.Call.{Call as AskedCall}
use Rattle.hippo_history_top.specs.CommandLine.{asked_of}
use Rattle.hippo_history_top.specs.Damage.{ShowsToDamage, BeginsToDamage}
use Rattle.hippo_history_top.specs.Endings.{showing_statuses}
use Rattle.hippo_history_top.specs.Outcomes.{ShowsView, BeginsView}
use Rattle.hippo_history_top.specs.Saying.{showing_usage, missing_line}

-- what may be answered when it is asked whether there is a store with a name
abbrev pub StoreAnswers : Type 1
StoreAnswers = Txt → Bool → Type 0

-- what is asked for is shown
abbrev pub ShowsWhole : AskedCall → HostState → HostState → Type 0
ShowsWhole call before after =
    ShowsView call.view call.store before.keeper after.keeper before.written after.written

-- a prefix of what is asked for is shown
abbrev pub ShowsFront : AskedCall → HostState → HostState → Type 0
ShowsFront call before after =
    BeginsView call.view call.store before.keeper after.keeper before.written after.written

-- what is asked for of the history before the damage is shown, and then the place; or a prefix of
-- that
abbrev pub ShowsDamagedStore : AskedCall → HostState → HostState → Type 0
ShowsDamagedStore call before after =
    ShowsToDamage call.view call.store before.keeper after.keeper before.written after.written

abbrev pub BeginsDamagedStore : AskedCall → HostState → HostState → Type 0
BeginsDamagedStore call before after =
    BeginsToDamage call.view call.store before.keeper after.keeper before.written after.written

-- nothing is written, and what is stored is as it was found
abbrev pub StaysIdle : AskedCall → HostState → HostState → Type 0
StaysIdle call before after =
    IsSilent before after × IsIdle call.store before.keeper after.keeper

-- there is no store with the name, the keeper is not started, and the line that says so is written,
-- or a prefix of it
abbrev pub SaysMissing : StoreAnswers → AskedCall → HostState → HostState → Type 0
SaysMissing answers call before after =
    answers call.store false × IsSameKeeper before.keeper after.keeper
    × Appends before.written after.written missing_line

abbrev pub BeginsMissing : StoreAnswers → AskedCall → HostState → HostState → Type 0
BeginsMissing answers call before after =
    answers call.store false × IsSameKeeper before.keeper after.keeper
    × AppendsFront before.written after.written missing_line

-- what was answered about the store: that it is there; or that it is not, and then the keeper is not
-- started
abbrev pub HasAskedStores : StoreAnswers → AskedCall → ℕ → HostState → HostState → Type 0
HasAskedStores answers call status before after =
    answers call.store true
    ⊎ (answers call.store false × ((status ≡ 3) ⊎ (status ≡ 5))
    × IsSameKeeper before.keeper after.keeper × (after.steps ≡ before.steps))

-- what each status means for what is asked for
pub record ShowsAsked (answers : StoreAnswers) (call : AskedCall) (status : ℕ)
    (before after : HostState) : Type 0 where
  pub looked : status ≢ 7 → HasAskedStores answers call status before after
  pub tells : TellsOnceStarted call.store before.keeper after.keeper
  pub shown : status ≡ 0 → after.keeper.tells → ShowsWhole call before after
  pub keeper_cut : status ≡ 3 → SaysMissing answers call before after
      ⊎ (after.keeper.tells → StaysIdle call before after ⊎ ShowsFront call before after)
  pub write_cut : status ≡ 5 → BeginsMissing answers call before after
      ⊎ (after.keeper.tells → BeginsDamagedStore call before after ⊎ ShowsFront call before after)
  pub damaged : status ≡ 6 → after.keeper.tells → ShowsDamagedStore call before after
  pub memory_cut : status ≡ 7 → after.keeper.tells → StaysIdle call before after
      ⊎ (BeginsDamagedStore call before after ⊎ ShowsFront call before after)
  pub same : after.keeper.tells → IsIdle call.store before.keeper after.keeper

-- how the program ends, given what may be answered about stores; it reads no input
pub record HistoryCallEnds (answers : StoreAnswers) (words : List Txt) (status : ℕ)
    (before after : HostState) : Type 0 where
  pub listed : AnswersAmong showing_statuses (asked_of words) status
  pub unread : IsUnread before after
  pub reads : after.faults.reads ≡ before.faults.reads
  pub writes : ReportsFault 5 status before.faults.writes after.faults.writes
  pub keeper : status ≢ 3 → after.keeper.faults ≡ before.keeper.faults
  pub keeper_fault : status ≡ 3
      → ((call : AskedCall) → asked_of words ≡ Some call → answers call.store false)
      ⊎ HasRisen before.keeper.faults after.keeper.faults
  pub untouched : asked_of words ≡ None
      → IsSameKeeper before.keeper after.keeper × (after.steps ≡ before.steps)
  pub usage_said : status ≡ 2 → Appends before.written after.written showing_usage
  pub usage_cut : asked_of words ≡ None → status ≡ 5
      → AppendsFront before.written after.written showing_usage
  pub shows : (call : AskedCall) → asked_of words ≡ Some call
      → ShowsAsked answers call status before after
  pub steps_within : after.keeper.tells
      → after.steps ≤ before.steps + 2 * stored_versions after.keeper.kept
