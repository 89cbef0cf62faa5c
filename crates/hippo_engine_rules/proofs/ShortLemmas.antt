-- A line that takes memory may be refused because memory ran out.
use Rattle.std.proofs.Common.{◌≡◌, Bool, inl, inr, refl, ap, sym, true, false, Ok, Err}
use Rattle.std.specs.Prelude.{ℕ, ok_or}
use Rattle.std.proofs.lemmas.Bool.{false≢true}
use Rattle.hippo_model.specs.declared.audit.Audit.{Audit}
use Rattle.hippo_model.specs.declared.entry.Entry.{Entry}
use Rattle.hippo_stmt_ast.specs.declared.statement.RawAudit.{RawAudit}
use Rattle.hippo_stmt_ast.specs.declared.statement.Stmt.TheVariants as stmt
use Rattle.hippo_model.specs.Terms.{History}
use Rattle.hippo_values.specs.Texts.{Txt}
use Rattle.hippo_values.specs.Results.{◌>>=◌}
use Rattle.hippo_report.specs.declared.refusal.Refusal.{Refusal}
use Rattle.hippo_report.specs.declared.speaker.Speaker.{Speaker}
use Rattle.hippo_report.specs.declared.refusal.Refusal.TheVariants.{Memory, NoSuchQuery, NoWatch, WatchLimit, JobLimit, NoJob}
use Rattle.hippo_report.specs.Refusals.{refusal_line}
use Rattle.hippo_audit_job.specs.Jobs.{OpenAudit}
use Rattle.hippo_engine_sessions.specs.declared.sessions.Session.{Session}
use Rattle.hippo_engine_sessions.specs.Worlds.{World, at_number, free_number}
use Rattle.hippo_stmt_lines.specs.Forms.{logs_in, logs_out, fetches, closes, steps, drops, unwatches, loads}
use Rattle.hippo_stmt_lines.specs.Commands.{Command, nothing, wrong, make_request, make_statement, who_commands, takes_memory}
use Rattle.hippo_stmt_lines.specs.Commands as commands
use Rattle.hippo_engine_checks.specs.declared.asking.Delivery.{Delivery}
use Rattle.hippo_engine_checks.specs.declared.asking.Delivery.TheVariants as delivered
use Rattle.hippo_engine_checks.specs.declared.asking.AnswerForm.TheVariants.{Rows, Records, Cursor}
use Rattle.hippo_engine_checks.specs.Deeds.{Deed, Question}
use Rattle.hippo_engine_checks.specs.Deeds as deeds
use Rattle.hippo_engine_checks.specs.Checks.{Checked, by_console, question_at}
use Rattle.hippo_engine_checks.specs.Judging.{judged, judged_fetch, judged_close, text_between, deed_for, audit_in, judged_begin, judged_drop}
use Rattle.hippo_engine_rules.specs.Effects.{only_reply, judgement_effect, effect_of, IsOutOfMemory, IsEffect}
use Rattle.hippo_engine_checks.specs.Findings.{may_do_nothing}
use Rattle.hippo_engine_rules.proofs.JudgedLemmas.{check, if_changed, if_loaded, if_asked, if_logged_in, if_logged_out, if_held}

-- a command is no step of a job, and does not set the clock
abbrev pub is_plain : Command → Bool
is_plain (commands.set_clock moment) = false
is_plain (make_request session (steps job count)) = false
is_plain command = true

-- nor does what is done for it
abbrev pub IsPlain : Checked Deed → Type 0
IsPlain (Ok (deeds.step_job number job count)) = ⊥
IsPlain (Ok (deeds.set_clock moment)) = ⊥
IsPlain judgement = Unit {0}

plain_refused : (refusal : Refusal) → IsPlain (Err refusal)
plain_refused refusal = tt

delivery_step : (session : Session) (question : Question) (delivery : Delivery) → IsPlain (Ok (deed_for session question delivery))
delivery_step session question delivered.Rows = tt
delivery_step session question delivered.Records = tt
delivery_step session question (delivered.Cursor cursor) = tt

fetch : (world : World) (who : Speaker) (at count : ℕ) → IsPlain (judged_fetch world who at count)
fetch world who at count = if_held IsPlain plain_refused world who at (λ number session cursor. Ok (deeds.hand_out number session at cursor count)) (λ number session cursor. tt)

close : (world : World) (who : Speaker) (at : ℕ) → IsPlain (judged_close world who at)
close world who at = if_held IsPlain plain_refused world who at (λ number session cursor. Ok (deeds.close_cursor number session at)) (λ number session cursor. tt)

begun : (history : History) (world : World) (who : Speaker) (written : RawAudit) → IsPlain (judged_begin history world who written)
begun history world who written =
    check IsPlain plain_refused {A = Audit} (audit_in history who written) (λ audit. ok_or (free_number world.jobs) JobLimit >>= λ free. Ok (deeds.begin_audit free audit))
    (λ audit. check IsPlain plain_refused {A = ℕ} (ok_or (free_number world.jobs) JobLimit) (λ free. Ok (deeds.begin_audit free audit)) (λ free. tt))

dropped : (world : World) (who : Speaker) (at : ℕ) → IsPlain (judged_drop world who at)
dropped world who at =
    check IsPlain plain_refused {A = Unit {0}} (by_console who) (λ console. ok_or (at_number world.jobs at) (NoJob at) >>= λ job. Ok (deeds.drop_job at))
    (λ console. check IsPlain plain_refused {A = OpenAudit} (ok_or (at_number world.jobs at) (NoJob at)) (λ job. Ok (deeds.drop_job at)) (λ job. tt))

-- the deed of any other command
pub plain : (history : History) (world : World) (command : Command) → is_plain command ≡ true → IsPlain (judged history world command)
plain history world nothing other = tt
plain history world (wrong who refusal) other = tt
plain history world (commands.set_clock moment) other = absurd (false≢true other)
plain history world (make_request who (logs_in user purpose recipient)) other =
    if_logged_in IsPlain plain_refused history world who user (record { purpose = purpose; recipient = recipient }) (λ number. tt)
plain history world (make_request who logs_out) other = if_logged_out IsPlain plain_refused world who (λ number. tt)
plain history world (make_request who (fetches cursor count)) other = fetch world who cursor count
plain history world (make_request who (closes cursor)) other = close world who cursor
plain history world (make_request who (steps job count)) other = absurd (false≢true other)
plain history world (make_request who (drops job)) other = dropped world who job
plain history world (make_request who (unwatches watch)) other =
    check IsPlain plain_refused {A = Unit {0}} (by_console who) (λ console. ok_or (at_number world.watches watch) (NoWatch watch) >>= λ audit. Ok (deeds.end_watch watch))
    (λ console. check IsPlain plain_refused {A = Audit} (ok_or (at_number world.watches watch) (NoWatch watch)) (λ audit. Ok (deeds.end_watch watch)) (λ audit. tt))
plain history world (make_request who (loads table text)) other = if_loaded IsPlain plain_refused history world who table text (λ act. tt)
plain history world (make_statement who (stmt.Select written start end) text) other =
    if_asked IsPlain plain_refused history world Rows who written (text_between text start end) delivery_step
plain history world (make_statement who (stmt.Ask written start end) text) other =
    if_asked IsPlain plain_refused history world Cursor who written (text_between text start end) delivery_step
plain history world (make_statement who (stmt.Extract written start end) text) other =
    if_asked IsPlain plain_refused history world Records who written (text_between text start end) delivery_step
plain history world (make_statement who (stmt.Explain question) text) other =
    check IsPlain plain_refused {A = Unit {0}} (by_console who) (λ console. ok_or (question_at history question) (NoSuchQuery question) >>= λ entry. Ok (deeds.explain entry))
    (λ console. check IsPlain plain_refused {A = Entry} (ok_or (question_at history question) (NoSuchQuery question)) (λ entry. Ok (deeds.explain entry)) (λ entry. tt))
plain history world (make_statement who (stmt.Audit written) text) other =
    check IsPlain plain_refused {A = Audit} (audit_in history who written) (λ audit. Ok (deeds.audit audit)) (λ audit. tt)
plain history world (make_statement who (stmt.BeginAudit audit) text) other = begun history world who audit
plain history world (make_statement who (stmt.Watch written) text) other =
    check IsPlain plain_refused {A = Audit} (audit_in history who written) (λ audit. ok_or (free_number world.watches) WatchLimit >>= λ free. Ok (deeds.watch free audit))
    (λ audit. check IsPlain plain_refused {A = ℕ} (ok_or (free_number world.watches) WatchLimit) (λ free. Ok (deeds.watch free audit)) (λ free. tt))
plain history world (make_statement who statement text) other = if_changed IsPlain plain_refused history world who statement (λ act. tt)

short_of : (history : History) (world : World) (reply : Txt) (judgement : Checked Deed) → IsPlain judgement → IsOutOfMemory history world reply judgement (only_reply world reply)
short_of history world reply (Ok (deeds.answer_question question)) none = record { said = refl; kept = inl refl; same = refl }
short_of history world reply (Ok (deeds.open_cursor session number question)) none = record { said = refl; kept = inl refl; same = refl }
short_of history world reply (Ok (deeds.extract question)) none = record { said = refl; kept = inl refl; same = refl }
short_of history world reply (Ok (deeds.step_job number job count)) none = absurd none
short_of history world reply judgement none = refl

-- a command that may do nothing takes memory
pub takes_some : (command : Command) → may_do_nothing command ≡ true → takes_memory command ≡ true
takes_some (make_request session (steps job count)) takes = absurd (false≢true takes)
takes_some command takes = takes

takes_plain : (command : Command) → may_do_nothing command ≡ true → is_plain command ≡ true
takes_plain (commands.set_clock moment) takes = absurd (false≢true takes)
takes_plain (make_request session (steps job count)) takes = absurd (false≢true takes)
takes_plain command takes = refl

-- a command that takes memory, and is no step, may be refused because memory ran out, and nothing
-- changes
pub short : (history : History) (world : World) (command : Command) → may_do_nothing command ≡ true
    → IsEffect history world command (only_reply world (refusal_line (who_commands command) Memory))
short history world command takes =
    inr (takes_some command takes, short_of history world (refusal_line (who_commands command) Memory) (judged history world command) (plain history world command (takes_plain command takes)))

-- a command that is refused has its refusal as reply, and nothing changes
pub refused : (history : History) (world : World) (command : Command) (refusal : Refusal) → judged history world command ≡ Err refusal
    → IsEffect history world command (only_reply world (refusal_line (who_commands command) refusal))
refused history world command refusal is =
    inl (sym (ap (λ (judgement : Checked Deed). judgement_effect history world (who_commands command) judgement) is))

-- a command that is judged to be carried out has its deed's effect
pub done_for : (history : History) (world : World) (command : Command) (deed : Deed) → judged history world command ≡ Ok deed
    → effect_of history world command ≡ judgement_effect history world (who_commands command) (Ok deed)
done_for history world command deed is = ap (λ (judgement : Checked Deed). judgement_effect history world (who_commands command) judgement) is
