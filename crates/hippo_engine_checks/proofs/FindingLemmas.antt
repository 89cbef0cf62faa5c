-- From the checks of each command to what judging it finds.
use Rattle.std.proofs.Common.{◌≡◌, ◌∙◌, ◌≤◌, ◌<◌, ◌^◌, ℕ, inl, inr, refl, sym, ap, subst, true, false, length, Option, Some, None, Result, Ok, Err}
use Rattle.std.specs.Prelude.{is_some, ok_or}
use Rattle.std.proofs.lemmas.Bool.{false≢true}
use Rattle.hippo_values.specs.Texts.{Txt}
use Rattle.hippo_values.specs.Results.{◌>>=◌}
use Rattle.hippo_values.proofs.OptionLemmas.{none_there, some_there}
use Rattle.hippo_model.specs.declared.audit.Audit.{Audit}
use Rattle.hippo_model.specs.declared.entry.Entry.{Entry}
use Rattle.hippo_stmt_ast.specs.declared.statement.RawAudit.{RawAudit}
use Rattle.hippo_stmt_ast.specs.declared.statement.RawSelect.{RawSelect}
use Rattle.hippo_stmt_ast.specs.declared.statement.Stmt.{Stmt}
use Rattle.hippo_stmt_ast.specs.declared.statement.Stmt.TheVariants as stmt
use Rattle.hippo_model.specs.Terms.{History}
use Rattle.hippo_keeper.specs.Keeping.{KeeperState}
use Rattle.hippo_audit_job.specs.Jobs.{OpenAudit}
use Rattle.hippo_replay.specs.declared.state.State.{State}
use Rattle.hippo_replay.specs.Standing.{Represents, MayFollow}
use Rattle.hippo_report.specs.declared.refusal.Refusal.{Refusal}
use Rattle.hippo_report.specs.declared.refusal.Refusal.TheVariants.{SessionsOnly, ConsoleOnly, NoSession, NoCursor, NoJob, NoWatch, JobLimit, WatchLimit}
use Rattle.hippo_report.specs.declared.speaker.Speaker.{Speaker}
use Rattle.hippo_report.specs.declared.speaker.Speaker.TheVariants.{Nobody, Console}
use Rattle.hippo_report.specs.declared.speaker.Speaker.TheVariants as speaker
use Rattle.hippo_report.specs.Refusals.{refusal_line}
use Rattle.hippo_engine_sessions.specs.declared.sessions.Session.{Session}
use Rattle.hippo_engine_sessions.specs.Worlds.{World, at_number, session_at, free_number}
use Rattle.hippo_stmt_lines.specs.Forms as requests
use Rattle.hippo_stmt_lines.specs.Commands.{Command, make_request, who_commands}
use Rattle.hippo_stmt_lines.specs.Commands as commands
use Rattle.hippo_engine_checks.specs.declared.asking.AnswerForm.{AnswerForm}
use Rattle.hippo_engine_checks.specs.declared.asking.AnswerForm.TheVariants.{Rows, Records, Cursor}
use Rattle.hippo_engine_checks.specs.declared.asking.WrittenQuestion.{WrittenQuestion}
use Rattle.hippo_engine_checks.specs.Asking.{is_asking, statement_asked, written_statement}
use Rattle.hippo_engine_checks.specs.declared.deeds.Deed.{Deed}
use Rattle.hippo_engine_checks.specs.declared.deeds.Deed.TheVariants as kinds
use Rattle.hippo_engine_checks.specs.declared.deeds.Unjudged.{Unjudged}
use Rattle.hippo_engine_checks.specs.declared.statements.LastingAudit.{LastingAudit}
use Rattle.hippo_engine_checks.specs.declared.statements.LastingAudit.TheVariants.{Job, Watch}
use Rattle.hippo_engine_checks.specs.Checks.{Checked, Refuses, by_console, by_session, open_session, cursor_in_session, job_at, HasJob, held_watch, reply_room}
use Rattle.hippo_engine_checks.specs.Deeds as deeds
use Rattle.hippo_engine_checks.specs.Changes.{IsChange}
use Rattle.hippo_engine_checks.specs.Findings.{AddsNextEntry, IsJudged, IsRefused, IsAuditOfState, Does, FindsDeed, begins, begun_with, free_to_begin, without_reading, Judges, may_do_nothing}
use Rattle.hippo_engine_checks.specs.Judging.{judged, audit_in}
use Rattle.hippo_engine_checks.proofs.FollowingLemmas.{some_so}

-- a command that takes memory is refused, or is out of memory
pub refused_or_short : (command : Command) (refusal : Refusal) (state : State) (world : World) → may_do_nothing command ≡ true
    → ((history : History) → Represents state history → Refuses (judged history world command) refusal) → IsRefused command refusal state world
refused_or_short command refusal state world takes refuses = record {
  refuses = refuses;
  exact = λ none. absurd (false≢true (sym none ∙ takes));
  short = λ none. absurd (false≢true (sym none ∙ takes));
}

-- a command is refused, and its refusal is short
pub refused_so : (command : Command) (refusal : Refusal) (state : State) (world : World) → IsJudged command state world (Err refusal)
    → length (refusal_line (who_commands command) refusal) ≤ reply_room → IsRefused command refusal state world
refused_so command refusal state world is fits = record {
  refuses = λ history stands. inl (is history stands);
  exact = λ none. is;
  short = λ none. fits;
}

-- after a check that refuses, no later check runs
pub refuses_on : {A B : Type 0} (checked : Checked A) (next : A → Checked B) (refusal : Refusal) → Refuses checked refusal → Refuses (checked >>= next) refusal
refuses_on checked next refusal (inl is) = inl (ap (λ c. c >>= next) is)
refuses_on checked next refusal (inr short) = inr short

-- a result that was found without reading does not depend on what the keeper keeps
pub judges_unread : (command : Command) (found : Checked Deed) (state : State) (world : World) (before after : KeeperState) (steps steps' : ℕ) → FindsDeed command found state world
    → Judges command (without_reading found) state world before after steps steps'
judges_unread command (Ok (kinds.Explain entry)) state world before after steps steps' is = absurd is
judges_unread command (Ok deed) state world before after steps steps' is = is
judges_unread command (Err refusal) state world before after steps steps' is = is

pub judges_found : (command : Command) (found : Checked Deed) (result : Result Deed Unjudged) (state : State) (world : World) (before after : KeeperState) (steps steps' : ℕ) → result ≡ without_reading found → FindsDeed command found state world
    → Judges command result state world before after steps steps'
judges_found command found result state world before after steps steps' is finds =
    subst (λ (one : Result Deed Unjudged). Judges command one state world before after steps steps') (sym is) (judges_unread command found state world before after steps steps' finds)

-- ---- who speaks
-- only the console may use a statement that asks nothing
for_console : (who : Speaker) (statement : Stmt) (text : Txt) (history : History) (world : World) → by_console who ≡ Err ConsoleOnly → is_asking statement ≡ false
    → judged history world (commands.make_statement who statement text) ≡ Err ConsoleOnly
for_console Console statement text history world refused plain = absurd cc
for_console who (stmt.Select select start end) text history world refused plain = absurd (false≢true (sym plain))
for_console who (stmt.Ask select start end) text history world refused plain = absurd (false≢true (sym plain))
for_console who (stmt.Extract select start end) text history world refused plain = absurd (false≢true (sym plain))
for_console Nobody statement text history world refused plain = refl
for_console (speaker.Session number) statement text history world refused plain = refl

pub console_only : (who : Speaker) (statement : Stmt) (text : Txt) (state : State) (world : World) → by_console who ≡ Err ConsoleOnly → is_asking statement ≡ false
    → IsRefused (commands.make_statement who statement text) ConsoleOnly state world
console_only who statement text state world refused plain =
    refused_or_short (commands.make_statement who statement text) ConsoleOnly state world refl
    (λ history stands. inl (for_console who statement text history world refused plain))

-- only a session may ask a question
for_sessions : (who : Speaker) (handing : AnswerForm) (select : RawSelect) (start end : ℕ) (text : Txt) (history : History) (world : World) → by_session who ≡ Err SessionsOnly
    → judged history world (commands.make_statement who (statement_asked handing select start end) text) ≡ Err SessionsOnly
for_sessions (speaker.Session number) handing select start end text history world refused = absurd cc
for_sessions Nobody Rows select start end text history world refused = refl
for_sessions Nobody Records select start end text history world refused = refl
for_sessions Nobody Cursor select start end text history world refused = refl
for_sessions Console Rows select start end text history world refused = refl
for_sessions Console Records select start end text history world refused = refl
for_sessions Console Cursor select start end text history world refused = refl

pub sessions_only : (who : Speaker) (statement : Stmt) (written : WrittenQuestion) (text : Txt) (state : State) (world : World) → by_session who ≡ Err SessionsOnly → statement ≡ written_statement written
    → IsRefused (commands.make_statement who statement text) SessionsOnly state world
sessions_only who statement written text state world refused asks =
    subst (λ (one : Stmt). IsRefused (commands.make_statement who one text) SessionsOnly state world) (sym asks)
    (refused_or_short (commands.make_statement who (written_statement written) text) SessionsOnly state world refl
    (λ history stands. inl (for_sessions who written.handing written.select.now written.start written.end text history world refused)))

-- ---- sessions and cursors
-- an open session is in the world
pub is_there : (world : World) (number : ℕ) (session : Session) → open_session world number ≡ Ok session → session_at world number ≡ Some session
is_there world number session is = some_so (session_at world number) NoSession session is

-- if the first check refuses, so do the checks together
refused_first : {A B : Type 0} (found : Checked A) (next : A → Checked B) (last : A → B → deeds.Deed) (refusal : Refusal) → ◌≡◌ {A = Checked B} (found >>= next) (Err refusal)
    → (found >>= λ one. next one >>= λ other. Ok (last one other)) ≡ Err refusal
refused_first {A} {B} (Ok one) next last refusal is = ap (λ (checked : Checked B). checked >>= λ other. Ok (last one other)) is
refused_first (Err other) next last refusal is = let same : other ≡ refusal = cc in ap Err same

-- closing a cursor is refused if it is not open
pub refused_close : (world : World) (state : State) (number at : ℕ) (refusal : Refusal) → cursor_in_session world number at ≡ Err refusal
    → length (refusal_line (speaker.Session number) refusal) ≤ reply_room → IsRefused (make_request (speaker.Session number) (requests.closes at)) refusal state world
refused_close world state number at refusal is fits =
    refused_so (make_request (speaker.Session number) (requests.closes at)) refusal state world
    (λ history stands. refused_first (open_session world number) (λ session. ok_or (at_number session.cursors at) (NoCursor at)) (λ session cursor. deeds.close_cursor number session at) refusal is) fits

-- ---- jobs
-- a job has this number, or looking it up fails
pub job_there : (world : World) (number : ℕ) → is_some (at_number world.jobs number) ≡ true → HasJob world number
job_there world number is = some_there (at_number world.jobs number) is

pub no_job : (world : World) (number : ℕ) → is_some (at_number world.jobs number) ≡ false → job_at world number ≡ Err (NoJob number)
no_job world number is = ap (λ (held : Option OpenAudit). ok_or held (NoJob number)) (none_there (at_number world.jobs number) is)

-- a watch has this number, or looking it up fails
pub watch_there : (world : World) (number : ℕ) → is_some (at_number world.watches number) ≡ true → held_watch world number ≡ Ok tt
watch_there world number is =
    let there = some_there (at_number world.watches number) is in
    ap (λ (held : Option Audit). ok_or held (NoWatch number) >>= λ audit. Ok tt) there.1

pub no_watch : (world : World) (number : ℕ) → is_some (at_number world.watches number) ≡ false → held_watch world number ≡ Err (NoWatch number)
no_watch world number is = ap (λ (held : Option Audit). ok_or held (NoWatch number) >>= λ audit. Ok tt) (none_there (at_number world.watches number) is)

watch_first : (found : Checked Audit) (deed : deeds.Deed) (refusal : Refusal) → ◌≡◌ {A = Checked (Unit {0})} (found >>= λ audit. Ok tt) (Err refusal) → (found >>= λ audit. Ok deed) ≡ Err refusal
watch_first (Ok audit) deed refusal is = absurd cc
watch_first (Err other) deed refusal is = let same : other ≡ refusal = cc in ap Err same

-- ending a watch is refused if none has the number
pub refused_unwatch : (world : World) (state : State) (number : ℕ) (refusal : Refusal) → held_watch world number ≡ Err refusal
    → length (refusal_line Console refusal) ≤ reply_room → IsRefused (make_request Console (requests.unwatches number)) refusal state world
refused_unwatch world state number refusal is fits =
    refused_so (make_request Console (requests.unwatches number)) refusal state world
    (λ history stands. watch_first (ok_or (at_number world.watches number) (NoWatch number)) (deeds.end_watch number) refusal is) fits

-- a step of an existing job, and its end
module _ (world : World) (state : State) (number : ℕ) (job : OpenAudit) (there : at_number world.jobs number ≡ Some job) where
  pub may_step : (count : ℕ) → Does (make_request Console (requests.steps number count)) (kinds.StepJob number count) state world
  may_step count = (
    refl,
    record {
      job = job;
      there = there;
      does = λ history stands. ap (λ (held : Option OpenAudit). ok_or held (NoJob number) >>= λ one. Ok (deeds.step_job number one count)) there;
    },
  )

  pub may_drop : Does (make_request Console (requests.drops number)) (kinds.DropJob number) state world
  may_drop = (
    refl,
    record {
      job = job;
      there = there;
      does = λ history stands. ap (λ (held : Option OpenAudit). ok_or held (NoJob number) >>= λ one. Ok (deeds.drop_job number)) there;
    },
  )

pub refused_step : (world : World) (state : State) (number count : ℕ) (refusal : Refusal) → job_at world number ≡ Err refusal
    → length (refusal_line Console refusal) ≤ reply_room → IsRefused (make_request Console (requests.steps number count)) refusal state world
refused_step world state number count refusal is fits =
    refused_so (make_request Console (requests.steps number count)) refusal state world
    (λ history stands. ap (λ (checked : Checked OpenAudit). checked >>= λ job. Ok (deeds.step_job number job count)) is) fits

pub refused_drop : (world : World) (state : State) (number : ℕ) (refusal : Refusal) → job_at world number ≡ Err refusal
    → length (refusal_line Console refusal) ≤ reply_room → IsRefused (make_request Console (requests.drops number)) refusal state world
refused_drop world state number refusal is fits =
    refused_so (make_request Console (requests.drops number)) refusal state world
    (λ history stands. ap (λ (checked : Checked OpenAudit). checked >>= λ job. Ok (deeds.drop_job number)) is) fits

-- ---- audits
module _ (state : State) (world : World) (written : RawAudit) (text : Txt) where
  abbrev of_audit : (Audit → Checked deeds.Deed) → History → Checked deeds.Deed
  of_audit next history = audit_in history Console written >>= next

  module _ (audit : Audit) (means : IsAuditOfState audit state) (is : (history : History) → Represents state history → audit_in history Console written ≡ Ok audit) where
    judged_audit : (next : Audit → Checked deeds.Deed) (history : History) → Represents state history → of_audit next history ≡ next audit
    judged_audit next history stands = ap (λ (checked : Checked Audit). checked >>= next) (is history stands)

    pub may_audit : Does (commands.make_statement Console (stmt.Audit written) text) (kinds.Audit audit) state world
    may_audit = ((written, text, refl), means, judged_audit (λ one. Ok (deeds.audit one)))

    at_free : (make : ℕ → Audit → deeds.Deed) (limit : Refusal) (free found : Option ℕ) → free ≡ found
        → (ok_or free limit >>= λ number. Ok (make number audit)) ≡ (ok_or found limit >>= λ number. Ok (make number audit))
    at_free make limit free found is = ap (λ (one : Option ℕ). ok_or one limit >>= λ number. Ok (make number audit)) is

    begun : (make : ℕ → Audit → deeds.Deed) (limit : Refusal) (free found : Option ℕ) → free ≡ found → (history : History) → Represents state history
        → of_audit (λ one. ok_or free limit >>= λ number. Ok (make number one)) history ≡ (ok_or found limit >>= λ number. Ok (make number audit))
    begun make limit free found is history stands =
        judged_audit (λ one. ok_or free limit >>= λ number. Ok (make number one)) history stands ∙ at_free make limit free found is

    -- a job begins, or a watch is set, if a number is free
    pub may_begin : (lasting : LastingAudit) (found : Option ℕ) → free_to_begin lasting world ≡ found → FindsDeed (commands.make_statement Console (begins lasting written) text) (begun_with lasting audit found) state world
    may_begin Job (Some number) free = ((written, text, refl), means, free, begun deeds.begin_audit JobLimit (free_number world.jobs) (Some number) free)
    may_begin Watch (Some number) free = ((written, text, refl), means, begun deeds.watch WatchLimit (free_number world.watches) (Some number) free)
    may_begin Job None free =
        refused_or_short (commands.make_statement Console (stmt.BeginAudit written) text) JobLimit state world refl
        (λ history stands. inl (begun deeds.begin_audit JobLimit (free_number world.jobs) None free history stands))
    may_begin Watch None free =
        refused_or_short (commands.make_statement Console (stmt.Watch written) text) WatchLimit state world refl
        (λ history stands. inl (begun deeds.watch WatchLimit (free_number world.watches) None free history stands))

-- a statement with an audit is refused if the audit is refused
pub refused_audit : (state : State) (world : World) (written : RawAudit) (command : Command) (next : Audit → Checked deeds.Deed) (refusal : Refusal) → may_do_nothing command ≡ true
    → ((history : History) → judged history world command ≡ (audit_in history Console written >>= next))
    → ((history : History) → Represents state history → Refuses (audit_in history Console written) refusal) → IsRefused command refusal state world
refused_audit state world written command next refusal takes begins refuses =
    refused_or_short command refusal state world takes
    (λ history stands. subst (λ (judgement : Checked deeds.Deed). Refuses judgement refusal) (sym (begins history))
    (refuses_on (audit_in history Console written) next refusal (refuses history stands)))

-- so is a statement that begins a job or sets a watch
pub refused_begin : (state : State) (world : World) (written : RawAudit) (text : Txt) (lasting : LastingAudit) (refusal : Refusal)
    → ((history : History) → Represents state history → Refuses (audit_in history Console written) refusal)
    → IsRefused (commands.make_statement Console (begins lasting written) text) refusal state world
refused_begin state world written text Job refusal refuses =
    refused_audit state world written (commands.make_statement Console (stmt.BeginAudit written) text)
    (λ audit. ok_or (free_number world.jobs) JobLimit >>= λ number. Ok (deeds.begin_audit number audit)) refusal refl (λ history. refl) refuses
refused_begin state world written text Watch refusal refuses =
    refused_audit state world written (commands.make_statement Console (stmt.Watch written) text)
    (λ audit. ok_or (free_number world.watches) WatchLimit >>= λ number. Ok (deeds.watch number audit)) refusal refl (λ history. refl) refuses

-- ---- changes
module _ (state : State) (world : World) (command : Command) (judgement : History → Checked deeds.Deed) (takes : may_do_nothing command ≡ true)
    (begins : (history : History) → judged history world command ≡ judgement history) where
  pub may_change : (entry : Entry) → who_commands command ≡ Console → ((history : History) → Represents state history → IsChange history world (judgement history) entry) → entry.seq < 2 ^ 63 → MayFollow state entry
      → AddsNextEntry command entry state world
  may_change entry console is number follows = record {
    console = console;
    memory = takes;
    does = λ history stands. subst (λ (one : Checked deeds.Deed). IsChange history world one entry) (sym (begins history)) (is history stands);
    number = number;
    follows = follows;
  }

  pub refused_change : (refusal : Refusal) → ((history : History) → Represents state history → Refuses (judgement history) refusal) → IsRefused command refusal state world
  refused_change refusal refuses =
      refused_or_short command refusal state world takes
      (λ history stands. subst (λ (one : Checked deeds.Deed). Refuses one refusal) (sym (begins history)) (refuses history stands))
