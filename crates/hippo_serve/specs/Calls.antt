-- What holds of the program's host when the program ends.
use Rattle.std.specs.Prelude.{◌≡◌, ℕ, List, Option, Some, None}
use Rattle.hippo_values.specs.Texts.{Txt}
use Rattle.hippo_io.specs.Inputs.{ForEachInput}
use Rattle.hippo_io.specs.Told.{Appends, AppendsFront}
use Rattle.hippo_keeper.specs.Telling.{TellsOnceStarted}
use Rattle.hippo_program_start.specs.Hosts.{HostState, IsUnread, IsSilent, IsUntouched}
use Rattle.hippo_program_start.specs.Statuses.{AnswersAmong, ReportsFault}
use Rattle.hippo_program_args.specs.Starting.{IsIdle, SaysDamaged}
use Rattle.hippo_serve_args.specs.CommandLine.{call_of}
use Rattle.hippo_serve_args.specs.declared.calls.Job.{Job}
use Rattle.hippo_serve_args.specs.declared.calls.Job.TheVariants.{Check, Drill}
use Rattle.hippo_serve_args.specs.declared.calls.Setting.{Setting}
use Rattle.hippo_program_args.specs.declared.endings.Ending.{Ending}
use Rattle.hippo_serve_jobs.specs.Drilling.{summary}
use Rattle.hippo_serve_jobs.specs.Endings.{statuses}
use Rattle.hippo_serve_jobs.specs.Outcomes.{RunEnds, CheckEnds}
use Rattle.hippo_serve_jobs.specs.Outside.{Outside, outside}
use Rattle.hippo_serve_jobs.specs.Runs.{HasTakenBytes}
use Rattle.hippo_serve_jobs.specs.Saying.{usage}
use Rattle.hippo_serve.specs.Asking.{job_of, store_of, AskToServe, EndsAs}

-- a host as the jobs see it, where these bytes of the input are left
abbrev pub seen_with : Option Txt → HostState → Outside
seen_with left host = outside left host.written host.keeper host.steps

-- the status is one of the program's; it is that of a fault exactly if one was counted, and 2 for
-- words that ask for nothing
pub record StatusFits (words : List Txt) (status : ℕ) (before after : HostState) : Type 0 where
  pub listed : AnswersAmong statuses (call_of words) status
  pub reads : ReportsFault 4 status before.faults.reads after.faults.reads
  pub writes : ReportsFault 5 status before.faults.writes after.faults.writes
  pub keeper : ReportsFault 3 status before.keeper.faults after.keeper.faults

-- words that ask for nothing are answered by the usage line, and touch nothing else
pub record RefusesWords (words : List Txt) (status : ℕ) (before after : HostState) : Type 0 where
  pub untouched : call_of words ≡ None → IsUntouched before after
  pub usage_said : status ≡ 2 → Appends before.written after.written usage
  pub usage_cut : call_of words ≡ None → status ≡ 5
      → AppendsFront before.written after.written usage

-- a run or a load ends as its status says, whatever the input may be
pub record ServesLines (words : List Txt) (status : ℕ) (before after : HostState) : Type 0 where
  pub served : (job : Job) (setting : Setting) → AskToServe words job setting → after.keeper.tells
      → ForEachInput before.input.left before.input.reads after.input.left after.input.reads
      (λ left left'. EndsAs (λ ending. RunEnds ending (IsUnread before after)
      (IsSilent before after) setting job (store_of words) (seen_with left before)
      (seen_with left' after)) status)
  pub taken : (job : Job) (setting : Setting) → AskToServe words job setting
      → ForEachInput before.input.left before.input.reads after.input.left after.input.reads
      (λ left left'. (input : Txt) → left ≡ Some input → HasTakenBytes status input left')

-- a check ends as its status says, reads nothing and stores nothing
pub record ChecksStore (words : List Txt) (status : ℕ) (before after : HostState) : Type 0 where
  pub counted : after.keeper.tells → EndsAs (λ ending. CheckEnds ending (IsSilent before after)
      (store_of words) (seen_with before.input.left before) (seen_with after.input.left after))
      status
  pub unread : IsUnread before after
  pub same : after.keeper.tells → IsIdle (store_of words) before.keeper after.keeper

-- a drill writes the results of its script and touches nothing else
pub record DrillsScript (size number status : ℕ) (before after : HostState) : Type 0 where
  pub drilled : status ≡ 0 → Appends before.written after.written (summary size number)
  pub drill_cut : status ≡ 5 → AppendsFront before.written after.written (summary size number)
  pub untouched : IsUntouched before after

-- how the program ends
pub record CallEnds (words : List Txt) (status : ℕ) (before after : HostState) : Type 0 where
  pub fits : StatusFits words status before after
  pub refuses : RefusesWords words status before after
  pub tells : TellsOnceStarted (store_of words) before.keeper after.keeper
  pub serves : ServesLines words status before after
  pub checks : job_of words ≡ Some Check → ChecksStore words status before after
  pub drills : (size number : ℕ) → job_of words ≡ Some (Drill size number)
      → DrillsScript size number status before after
  pub damaged : status ≡ 6 → after.keeper.tells → IsUnread before after
      × SaysDamaged (store_of words) before.keeper after.keeper before.written after.written
  pub nothing : status ≡ 7 → IsUnread before after × IsSilent before after
      × (after.keeper.tells → IsIdle (store_of words) before.keeper after.keeper)
