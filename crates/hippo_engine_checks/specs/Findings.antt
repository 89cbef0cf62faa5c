-- What judging a command finds: what to do, with what carrying it out needs; or the first refusal.
use Rattle.std.specs.Prelude.{◌≡◌, ◌≢◌, ◌≤◌, ◌<◌, ◌^◌, ℕ, ◌+◌, ℤ, Bool, true, false, length, map, slice_get, bytes_eq, Option, Some, None, IfSome, Result, Ok, Err, IfOk}
use Rattle.std.specs.List.{IsDistinct}
use Rattle.hippo_values.specs.Texts.{Txt}
use Rattle.hippo_model.specs.declared.audit.Audit.{Audit}
use Rattle.hippo_model.specs.declared.entry.Entry.{Entry}
use Rattle.hippo_stmt_ast.specs.declared.statement.RawAudit.{RawAudit}
use Rattle.hippo_stmt_ast.specs.declared.statement.Stmt.{Stmt}
use Rattle.hippo_stmt_ast.specs.declared.statement.Stmt.TheVariants as stmt
use Rattle.hippo_model.specs.StoredForms.{stored}
use Rattle.hippo_model.specs.Terms.{History, Place}
use Rattle.hippo_model.specs.Versions.{versions}
use Rattle.hippo_keeper.specs.Keeping.{KeeperState, IsAfterCall, KeepsSame}
use Rattle.hippo_backlog.specs.Calls as reads
use Rattle.hippo_backlog.specs.declared.faults.ReadFault.{ReadFault}
use Rattle.hippo_backlog.specs.declared.faults.ReadFault.TheVariants.{Damaged}
use Rattle.hippo_audit_job.specs.Examining.{IsAuditOf}
use Rattle.hippo_audit_job.specs.Jobs.{OpenAudit}
use Rattle.hippo_replay.specs.declared.state.State.{State}
use Rattle.hippo_replay.specs.Standing.{Represents, MayFollow}
use Rattle.hippo_report.specs.declared.refusal.Refusal.{Refusal}
use Rattle.hippo_report.specs.declared.refusal.Refusal.TheVariants.{JobLimit, WatchLimit}
use Rattle.hippo_report.specs.declared.speaker.Speaker.TheVariants.{Nobody, Console}
use Rattle.hippo_report.specs.declared.speaker.Speaker.TheVariants as speaker
use Rattle.hippo_report.specs.Refusals.{refusal_line}
use Rattle.hippo_engine_sessions.specs.declared.cursors.Cursor.{Cursor}
use Rattle.hippo_engine_sessions.specs.declared.sessions.Session.{Session}
use Rattle.hippo_engine_sessions.specs.Worlds.{World, at_number, session_at, free_number}
use Rattle.hippo_stmt_lines.specs.Forms as requests
use Rattle.hippo_typing_laws.specs.CommandLaws.{IsPartOfLine as StandsIn}
use Rattle.hippo_stmt_lines.specs.Commands.{Command, wrong, make_request, who_commands, takes_memory}
use Rattle.hippo_stmt_lines.specs.Commands as commands
use Rattle.hippo_engine_checks.specs.declared.asking.Delivery.{Delivery}
use Rattle.hippo_engine_checks.specs.declared.deeds.Deed.{Deed}
use Rattle.hippo_engine_checks.specs.declared.deeds.Deed.TheVariants as kinds
use Rattle.hippo_engine_checks.specs.declared.deeds.Question.{Question}
use Rattle.hippo_engine_checks.specs.declared.deeds.Unjudged.{Unjudged}
use Rattle.hippo_engine_checks.specs.declared.deeds.Unjudged.TheVariants.{Refused, NoQuestion, Unread}
use Rattle.hippo_engine_checks.specs.declared.statements.LastingAudit.{LastingAudit}
use Rattle.hippo_engine_checks.specs.declared.statements.LastingAudit.TheVariants.{Job, Watch}
use Rattle.hippo_engine_checks.specs.Asking.{IsAnswerable, question_entry}
use Rattle.hippo_engine_checks.specs.Changes.{IsChange}
use Rattle.hippo_engine_checks.specs.Checks.{Checked, Refuses, question_at, reply_room}
use Rattle.hippo_engine_checks.specs.Deeds as deeds
use Rattle.hippo_engine_checks.specs.Judging.{deed_for, judged}

-- what holds of each command that comes from a line: if nobody speaks, the refusal is short, and a
-- statement is part of the line
abbrev pub IsOfLine : Command → Type 0
IsOfLine (wrong Nobody refusal) = length (refusal_line Nobody refusal) ≤ reply_room
IsOfLine (commands.make_statement who statement text) =
    (line : Txt) × StandsIn line statement text
IsOfLine command = Unit {0}

-- a command that takes memory and may fail as out of memory with nothing changed, in any world; not
-- a step, since a step may stop its job at any number up to the step's end
abbrev pub may_do_nothing : Command → Bool
may_do_nothing (make_request who (requests.steps job count)) = false
may_do_nothing command = takes_memory command

-- true for the requests that only sessions may make; only the console may make the others
abbrev pub is_of_session : requests.Request → Bool
is_of_session (requests.logs_in user purpose recipient) = true
is_of_session requests.logs_out = true
is_of_session (requests.fetches cursor count) = true
is_of_session (requests.closes cursor) = true
is_of_session request = false

-- the judgement of a command, for every history that the state stands for
abbrev pub IsJudged : Command → State → World → Checked deeds.Deed → Type 0
IsJudged command state world judgement =
    (history : History) → Represents state history
    → judged history world command ≡ judgement

-- the command is refused, or fails as out of memory if it takes any; if it may not fail so, its
-- refusal is short
pub record IsRefused (command : Command) (refusal : Refusal) (state : State) (world : World)
    : Type 0 where
  pub refuses : (history : History) → Represents state history
      → Refuses (judged history world command) refusal
  pub exact : may_do_nothing command ≡ false → IsJudged command state world (Err refusal)
  pub short : may_do_nothing command ≡ false
      → length (refusal_line (who_commands command) refusal) ≤ reply_room

-- the cursor with a number in an open session
pub record HoldsCursor (world : World) (session at : ℕ) (holds : Session → Cursor → Type 0)
    : Type 0 where
  pub held : Session
  pub cursor : Cursor
  pub there : session_at world session ≡ Some held
  pub stands : at_number held.cursors at ≡ Some cursor
  pub does : holds held cursor

-- the job with a number
pub record HoldsJob (world : World) (number : ℕ) (holds : OpenAudit → Type 0) : Type 0 where
  pub job : OpenAudit
  pub there : at_number world.jobs number ≡ Some job
  pub does : holds job

-- the entry is the next one, and may follow the history
pub record AddsNextEntry (command : Command) (entry : Entry) (state : State) (world : World)
    : Type 0 where
  pub console : who_commands command ≡ Console
  pub memory : may_do_nothing command ≡ true
  pub does : (history : History) → Represents state history
      → IsChange history world (judged history world command) entry
  pub number : entry.seq < 2 ^ 63
  pub follows : MayFollow state entry

-- the question of an open session, with its asker
abbrev pub question_by : Session → Question → deeds.Question
question_by asker question = record {
  session = question.session;
  user = asker.user;
  pair = asker.pair;
  text = question.text.now;
  query = question.query;
}

-- a question can be answered, and its entry may follow the history
pub record MayBeAsked (command : Command) (question : Question) (delivery : Delivery)
    (state : State) (world : World)
    : Type 0 where
  pub asker : Session
  pub there : session_at world question.session ≡ Some asker
  pub who : who_commands command ≡ speaker.Session question.session
  pub memory : may_do_nothing command ≡ true
  pub does : IsJudged command state world
      (Ok (deed_for asker (question_by asker question) delivery))
  pub answerable : IsAnswerable state question.query
  pub below : state.count + 1 < 2 ^ 63
  pub follows : MayFollow state (question_entry state world.clock (question_by asker question))

-- the audit is an audit of every history that the state stands for
pub record IsAuditOfState (audit : Audit) (state : State) : Type 0 where
  pub fits : (history : History) → Represents state history → IsAuditOf history audit
  pub differ : IsDistinct bytes_eq audit.tables

-- what to do for a command, and what carrying it out needs
abbrev pub Does : Command → Deed → State → World → Type 0
Does command kinds.DoNothing state world = IsJudged command state world (Ok deeds.do_nothing)
Does command (kinds.SetClock moment) state world =
    IsJudged command state world (Ok (deeds.set_clock moment))
Does command (kinds.LogIn session user pair) state world =
    (who_commands command ≡ speaker.Session session) × (may_do_nothing command ≡ true)
    × IsJudged command state world (Ok (deeds.log_in session user pair))
Does command (kinds.LogOut session) state world =
    IsJudged command state world (Ok (deeds.log_out session))
Does command (kinds.HandOut session at count) state world =
    (who_commands command ≡ speaker.Session session) × (may_do_nothing command ≡ true)
    × HoldsCursor world session at (λ held cursor.
    IsJudged command state world (Ok (deeds.hand_out session held at cursor count)))
Does command (kinds.CloseCursor session at) state world =
    HoldsCursor world session at (λ held cursor. IsJudged command state world
    (Ok (deeds.close_cursor session held at)))
Does command (kinds.StepJob number count) state world =
    (command ≡ make_request Console (requests.steps number count))
    × HoldsJob world number (λ job. IsJudged command state world
    (Ok (deeds.step_job number job count)))
Does command (kinds.DropJob number) state world =
    (command ≡ make_request Console (requests.drops number))
    × HoldsJob world number (λ job. IsJudged command state world (Ok (deeds.drop_job number)))
Does command (kinds.EndWatch number) state world =
    IsJudged command state world (Ok (deeds.end_watch number))
Does command (kinds.Change entry) state world = AddsNextEntry command entry state world
Does command (kinds.Ask question delivery) state world =
    MayBeAsked command question delivery state world
Does command (kinds.Explain entry) state world = ⊥
Does command (kinds.Audit audit) state world =
    ((written : RawAudit) × (text : Txt)
    × (command ≡ commands.make_statement Console (stmt.Audit written) text))
    × IsAuditOfState audit state × IsJudged command state world (Ok (deeds.audit audit))
Does command (kinds.BeginAudit number audit) state world =
    ((written : RawAudit) × (text : Txt)
    × (command ≡ commands.make_statement Console (stmt.BeginAudit written) text))
    × IsAuditOfState audit state × (free_number world.jobs ≡ Some number)
    × IsJudged command state world (Ok (deeds.begin_audit number audit))
Does command (kinds.Watch number audit) state world =
    ((written : RawAudit) × (text : Txt)
    × (command ≡ commands.make_statement Console (stmt.Watch written) text))
    × IsAuditOfState audit state × IsJudged command state world (Ok (deeds.watch number audit))

-- a command that names no logged question gives this deed, or is refused
abbrev pub FindsDeed : Command → Result Deed Refusal → State → World → Type 0
FindsDeed command (Ok deed) state world = Does command deed state world
FindsDeed command (Err refusal) state world = IsRefused command refusal state world

-- the statement that begins a job or sets a watch
abbrev pub begins : LastingAudit → RawAudit → Stmt
begins Job written = stmt.BeginAudit written
begins Watch written = stmt.Watch written

-- the refusal when there is no number left
abbrev pub limit_of : LastingAudit → Refusal
limit_of Job = JobLimit
limit_of Watch = WatchLimit

abbrev pub begun_at : LastingAudit → ℕ → Audit → Deed
begun_at Job number audit = kinds.BeginAudit number audit
begun_at Watch number audit = kinds.Watch number audit

-- it gets the free number; if there is none, it is refused
abbrev pub begun_with : LastingAudit → Audit → Option ℕ → Checked Deed
begun_with lasting audit (Some number) = Ok (begun_at lasting number audit)
begun_with lasting audit None = Err (limit_of lasting)

-- the lowest free number for it
abbrev pub free_to_begin : LastingAudit → World → Option ℕ
free_to_begin Job world = free_number world.jobs
free_to_begin Watch world = free_number world.watches

-- the question with a number was looked up in a history, in no step if it is there; or out of
-- memory, or the keeper failed
pub record HasLookedUp (history : History) (number : ℤ) (result : Result (Option Entry) ReadFault)
    (steps steps' : ℕ)
    : Type 0 where
  pub is : IfOk result (λ entry. question_at history number ≡ entry)
  pub there : IfOk result (λ entry. IfSome entry
      (λ one. (place : Place) × (slice_get history place ≡ Some one)))
  pub undamaged : (other : ℕ) → result ≢ Err (Damaged other)
  pub few : steps' ≤ steps + versions history
  pub idle : IfOk result (λ entry. IfSome entry (λ one. steps' ≡ steps))

-- looking up the question with a number in the kept history
pub record LooksUp (number : ℤ) (result : Result (Option Entry) ReadFault) (state : State)
    (before after : KeeperState)
    (steps steps' : ℕ) : Type 0 where
  pub call : IsAfterCall true false (reads.reading_as_call result) before after
  pub stays : after.tells → KeepsSame before after
  pub told : after.tells → (history : History) → map stored history ≡ before.kept
      → Represents state history
      → HasLookedUp history number result steps steps'

-- the console asks why cells were denied to the question with a number, and that question is looked
-- up
pub record LooksUpFor (command : Command) (number : ℤ) (result : Result (Option Entry) ReadFault)
    (state : State)
    (before after : KeeperState) (steps steps' : ℕ) : Type 0 where
  pub text : Txt
  pub is : command ≡ commands.make_statement Console (stmt.Explain number) text
  pub looks : LooksUp number result state before after steps steps'

-- the result of judging a command: a question's entry was looked up or found missing, or nothing
-- was read
abbrev pub Judges : Command → Result Deed Unjudged → State → World → KeeperState → KeeperState
    → ℕ → ℕ → Type 0
Judges command (Ok (kinds.Explain entry)) state world before after steps steps' =
    (number : ℤ) × LooksUpFor command number (Ok (Some entry)) state before after steps steps'
Judges command (Ok deed) state world before after steps steps' = Does command deed state world
Judges command (Err (Refused refusal)) state world before after steps steps' =
    IsRefused command refusal state world
Judges command (Err (NoQuestion number)) state world before after steps steps' =
    LooksUpFor command number (Ok None) state before after steps steps'
Judges command (Err (Unread fault)) state world before after steps steps' =
    (number : ℤ) × LooksUpFor command number (Err fault) state before after steps steps'

-- a result that was found without reading
abbrev pub without_reading : Result Deed Refusal → Result Deed Unjudged
without_reading (Ok deed) = Ok deed
without_reading (Err refusal) = Err (Refused refusal)

-- nothing was read to find this result
abbrev pub reads_nothing : Result Deed Unjudged → Bool
reads_nothing (Ok (kinds.Explain entry)) = false
reads_nothing (Ok deed) = true
reads_nothing (Err (Refused refusal)) = true
reads_nothing (Err fault) = false
