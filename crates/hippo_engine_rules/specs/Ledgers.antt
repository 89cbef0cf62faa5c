-- The steps that lines take to read the history that is kept, the tallies of the jobs, and the
-- bound on the steps of a run.
use Rattle.std.specs.Prelude.{◌≡◌, ◌⊎◌, ◌≤◌, ℕ, ◌+◌, ◌*◌, Bool, true, false, ◌||◌, if◌then◌else◌, List, length, sum, All, filter_map, Option, Some, None, is_some, option_map}
use Rattle.hippo_values.specs.Texts.{Txt}
use Rattle.hippo_stmt_ast.specs.declared.statement.Stmt.TheVariants as stmt
use Rattle.hippo_stmt_lines.specs.Forms as requests
use Rattle.hippo_report.specs.declared.speaker.Speaker.TheVariants.{Console}
use Rattle.hippo_report.specs.declared.refusal.Refusal.TheVariants.{Memory}
use Rattle.hippo_report.specs.Refusals.{refusal_line}
use Rattle.hippo_stmt_lines.specs.Commands.{Command, make_request, make_statement, who_commands}
use Rattle.hippo_engine_sessions.specs.Tallies.{JobTally}
use Rattle.hippo_engine_sessions.specs.Worlds.{at_number, with_at, free_number}

-- a statement that reads the whole history at once: an audit, or an explanation of why cells of an
-- answer were denied
abbrev pub looks_back : Command → Bool
looks_back (make_statement who (stmt.Audit audit) text) = true
looks_back (make_statement who (stmt.Explain question) text) = true
looks_back command = false

-- the command begins an audit job
abbrev pub begins_job : Command → Bool
begins_job (make_statement who (stmt.BeginAudit audit) text) = true
begins_job command = false

-- the job that the command steps
abbrev pub stepped_job : Command → Option ℕ
stepped_job (make_request who (requests.steps job count)) = Some job
stepped_job command = None

-- the job that the command drops
abbrev pub dropped_job : Command → Option ℕ
dropped_job (make_request who (requests.drops job)) = Some job
dropped_job command = None

-- the command reads the history that is kept
abbrev pub reads_kept : Command → Bool
reads_kept command = looks_back command || is_some (stepped_job command)

-- the number of audits that a line asks for; each may read the history that is kept once
abbrev pub audits_of : Command → ℕ
audits_of command = if looks_back command || begins_job command then 1 else 0

-- the tally of a job that has just begun
abbrev pub first_tally : JobTally
first_tally = record { taken = 0; unbroken = true }

-- the tally of a job rises by the steps that its line takes, to at most one step for each version;
-- the job stays unbroken if it was, or memory ran out and it is not unbroken any more
pub record TallyRises (reply : Txt) (versions steps steps' : ℕ) (old new : JobTally)
    : Type 0 where
  pub takes : steps' + old.taken ≡ steps + new.taken
  pub few : new.taken ≤ versions
  pub unbroken : (new.unbroken ≡ old.unbroken)
      ⊎ ((reply ≡ refusal_line Console Memory) × (new.unbroken ≡ false))

-- how the tallies of the open jobs change at a line over a history with this many versions. The
-- line takes no step; or it takes at most one step for each version, at once; or a job begins at
-- the lowest free number; or the job at the number that the console names is stepped or dropped.
-- All other tallies stay the same
pub data Tallies (command : Command) (reply : Txt) (versions steps steps' : ℕ)
    (old new : List (Option JobTally)) : Type 0 where
  none_taken : steps' ≡ steps → new ≡ old → Tallies command reply versions steps steps' old new
  at_once : looks_back command ≡ true → steps' ≤ steps + versions → new ≡ old
      → Tallies command reply versions steps steps' old new
  job_begun : (number : ℕ) → begins_job command ≡ true → steps' ≡ steps
      → free_number old ≡ Some number → new ≡ with_at old number (Some first_tally)
      → Tallies command reply versions steps steps' old new
  job_stepped : (number : ℕ) (before after : JobTally) → stepped_job command ≡ Some number
      → who_commands command ≡ Console → at_number old number ≡ Some before
      → new ≡ with_at old number (Some after)
      → TallyRises reply versions steps steps' before after
      → Tallies command reply versions steps steps' old new
  job_dropped : (number : ℕ) (before : JobTally) → dropped_job command ≡ Some number
      → steps' ≡ steps → at_number old number ≡ Some before → new ≡ with_at old number None
      → Tallies command reply versions steps steps' old new

-- the number of steps that each open job has taken
abbrev pub taken_by_each : List (Option JobTally) → List ℕ
taken_by_each jobs = filter_map (option_map (λ tally. tally.taken)) jobs

-- the bound on a run's steps: some of its audits are over, and the others are the open jobs; from
-- the start on, there are at most one step for each version by loading, one for each version by
-- each audit that is over, and the steps that the open jobs have taken
pub record RunSum (start steps versions audits : ℕ) (jobs : List (Option JobTally)) : Type 0 where
  pub over : ℕ
  pub number : audits ≡ over + length (taken_by_each jobs)
  pub within : steps ≤ start + versions + versions * over + sum (taken_by_each jobs)
  pub each : All (λ count. count ≤ versions) (taken_by_each jobs)
