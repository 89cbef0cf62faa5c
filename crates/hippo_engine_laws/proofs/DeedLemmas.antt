-- What the world holds at the numbers that a deed names.
use Rattle.std.proofs.Common.{◌≡◌, refl, ℕ, Option, Some, None, Ok, Err}
use Rattle.std.specs.Prelude.{int_lt, ok_or}
use Rattle.hippo_model.specs.declared.audit.Audit.{Audit}
use Rattle.hippo_model.specs.declared.entry.Entry.{Entry}
use Rattle.hippo_stmt_ast.specs.declared.statement.RawAudit.{RawAudit}
use Rattle.hippo_stmt_ast.specs.declared.statement.Stmt.TheVariants as stmt
use Rattle.hippo_model.specs.Terms.{History}
use Rattle.hippo_values.specs.Results.{◌>>=◌}
use Rattle.hippo_report.specs.declared.refusal.Refusal.{Refusal}
use Rattle.hippo_report.specs.declared.speaker.Speaker.{Speaker}
use Rattle.hippo_report.specs.declared.refusal.Refusal.TheVariants.{NoJob, NoWatch, JobLimit, WatchLimit, NoSuchQuery, MomentBack}
use Rattle.hippo_engine_sessions.specs.declared.sessions.Session.{Session}
use Rattle.hippo_audit_job.specs.Jobs.{OpenAudit}
use Rattle.hippo_engine_sessions.specs.Worlds.{World, at_number, free_number}
use Rattle.hippo_stmt_lines.specs.Forms.{logs_in, logs_out, fetches, closes, steps, drops, unwatches, loads}
use Rattle.hippo_stmt_lines.specs.Commands.{Command, nothing, wrong, make_request, make_statement}
use Rattle.hippo_stmt_lines.specs.Commands as commands
use Rattle.hippo_engine_checks.specs.declared.asking.Delivery.{Delivery}
use Rattle.hippo_engine_checks.specs.declared.asking.Delivery.TheVariants as delivered
use Rattle.hippo_engine_checks.specs.declared.asking.AnswerForm.TheVariants.{Rows, Records, Cursor}
use Rattle.hippo_engine_checks.specs.Deeds.{Deed, Question}
use Rattle.hippo_engine_checks.specs.Deeds as deeds
use Rattle.hippo_engine_checks.specs.Checks.{Checked, refused_if, by_console, question_at}
use Rattle.hippo_engine_checks.specs.Judging.{judged, judged_fetch, judged_close, judged_step, judged_drop, judged_unwatch, text_between, deed_for, audit_in, judged_begin, judged_watch}
use Rattle.hippo_engine_rules.proofs.JudgedLemmas.{check, if_changed, if_loaded, if_asked, if_logged_in, if_logged_out, if_held}

-- a job that is stepped is at its number, and whatever begins gets a free number
abbrev pub IsFounded : World → Checked Deed → Type 0
IsFounded world (Ok (deeds.step_job number job count)) = at_number world.jobs number ≡ Some job
IsFounded world (Ok (deeds.begin_audit number audit)) = free_number world.jobs ≡ Some number
IsFounded world (Ok (deeds.watch number audit)) = free_number world.watches ≡ Some number
IsFounded world judgement = Unit {0}

module _ (history : History) (world : World) where
  founded_refused : (refusal : Refusal) → IsFounded world (Err refusal)
  founded_refused refusal = tt

  -- if a look-up succeeds, its result is known
  held : {A : Type 0} (found : Option A) (refusal : Refusal) (next : A → Checked Deed) → ((one : A) → found ≡ Some one → IsFounded world (next one)) → IsFounded world (ok_or found refusal >>= next)
  held (Some one) refusal next all = all one refl
  held None refusal next all = tt

  handing : (session : Session) (question : Question) (delivery : Delivery) → IsFounded world (Ok (deed_for session question delivery))
  handing session question delivered.Rows = tt
  handing session question delivered.Records = tt
  handing session question (delivered.Cursor cursor) = tt

  fetch : (who : Speaker) (at count : ℕ) → IsFounded world (judged_fetch world who at count)
  fetch who at count = if_held (IsFounded world) founded_refused world who at (λ number session cursor. Ok (deeds.hand_out number session at cursor count)) (λ number session cursor. tt)

  close : (who : Speaker) (at : ℕ) → IsFounded world (judged_close world who at)
  close who at = if_held (IsFounded world) founded_refused world who at (λ number session cursor. Ok (deeds.close_cursor number session at)) (λ number session cursor. tt)

  step : (who : Speaker) (at count : ℕ) → IsFounded world (judged_step world who at count)
  step who at count =
      check (IsFounded world) founded_refused {A = Unit {0}} (by_console who) (λ console. ok_or (at_number world.jobs at) (NoJob at) >>= λ job. Ok (deeds.step_job at job count))
      (λ console. held {A = OpenAudit} (at_number world.jobs at) (NoJob at) (λ job. Ok (deeds.step_job at job count)) (λ job is. is))

  drop : (who : Speaker) (at : ℕ) → IsFounded world (judged_drop world who at)
  drop who at =
      check (IsFounded world) founded_refused {A = Unit {0}} (by_console who) (λ console. ok_or (at_number world.jobs at) (NoJob at) >>= λ job. Ok (deeds.drop_job at))
      (λ console. check (IsFounded world) founded_refused {A = OpenAudit} (ok_or (at_number world.jobs at) (NoJob at)) (λ job. Ok (deeds.drop_job at)) (λ job. tt))

  unwatch : (who : Speaker) (at : ℕ) → IsFounded world (judged_unwatch world who at)
  unwatch who at =
      check (IsFounded world) founded_refused {A = Unit {0}} (by_console who) (λ console. ok_or (at_number world.watches at) (NoWatch at) >>= λ audit. Ok (deeds.end_watch at))
      (λ console. check (IsFounded world) founded_refused {A = Audit} (ok_or (at_number world.watches at) (NoWatch at)) (λ audit. Ok (deeds.end_watch at)) (λ audit. tt))

  begin : (who : Speaker) (written : RawAudit) → IsFounded world (judged_begin history world who written)
  begin who written =
      check (IsFounded world) founded_refused {A = Audit} (audit_in history who written) (λ audit. ok_or (free_number world.jobs) JobLimit >>= λ free. Ok (deeds.begin_audit free audit))
      (λ audit. held {A = ℕ} (free_number world.jobs) JobLimit (λ free. Ok (deeds.begin_audit free audit)) (λ free is. is))

  watch : (who : Speaker) (written : RawAudit) → IsFounded world (judged_watch history world who written)
  watch who written =
      check (IsFounded world) founded_refused {A = Audit} (audit_in history who written) (λ audit. ok_or (free_number world.watches) WatchLimit >>= λ free. Ok (deeds.watch free audit))
      (λ audit. held {A = ℕ} (free_number world.watches) WatchLimit (λ free. Ok (deeds.watch free audit)) (λ free is. is))

  explain : (who : Speaker) (found : Option Entry) (refusal : Refusal) → IsFounded world (by_console who >>= λ console. ok_or found refusal >>= λ entry. Ok (deeds.explain entry))
  explain who found refusal =
      check (IsFounded world) founded_refused {A = Unit {0}} (by_console who) (λ console. ok_or found refusal >>= λ entry. Ok (deeds.explain entry))
      (λ console. check (IsFounded world) founded_refused {A = Entry} (ok_or found refusal) (λ entry. Ok (deeds.explain entry)) (λ entry. tt))

  -- every judged command
  pub founded : (command : Command) → IsFounded world (judged history world command)
  founded nothing = tt
  founded (wrong who refusal) = tt
  founded (commands.set_clock moment) =
      check (IsFounded world) founded_refused {A = Unit {0}} (refused_if (int_lt moment world.clock) (MomentBack world.clock)) (λ later. Ok (deeds.set_clock moment)) (λ later. tt)
  founded (make_request who (logs_in user purpose recipient)) =
      if_logged_in (IsFounded world) founded_refused history world who user (record { purpose = purpose; recipient = recipient }) (λ number. tt)
  founded (make_request who logs_out) = if_logged_out (IsFounded world) founded_refused world who (λ number. tt)
  founded (make_request who (fetches cursor count)) = fetch who cursor count
  founded (make_request who (closes cursor)) = close who cursor
  founded (make_request who (steps job count)) = step who job count
  founded (make_request who (drops job)) = drop who job
  founded (make_request who (unwatches watch)) = unwatch who watch
  founded (make_request who (loads table text)) = if_loaded (IsFounded world) founded_refused history world who table text (λ act. tt)
  founded (make_statement who (stmt.Select written start end) text) =
      if_asked (IsFounded world) founded_refused history world Rows who written (text_between text start end) handing
  founded (make_statement who (stmt.Ask written start end) text) =
      if_asked (IsFounded world) founded_refused history world Cursor who written (text_between text start end) handing
  founded (make_statement who (stmt.Extract written start end) text) =
      if_asked (IsFounded world) founded_refused history world Records who written (text_between text start end) handing
  founded (make_statement who (stmt.Explain question) text) = explain who (question_at history question) (NoSuchQuery question)
  founded (make_statement who (stmt.Audit written) text) = check (IsFounded world) founded_refused {A = Audit} (audit_in history who written) (λ audit. Ok (deeds.audit audit)) (λ audit. tt)
  founded (make_statement who (stmt.BeginAudit written) text) = begin who written
  founded (make_statement who (stmt.Watch written) text) = watch who written
  founded (make_statement who statement text) = if_changed (IsFounded world) founded_refused history world who statement (λ act. tt)
