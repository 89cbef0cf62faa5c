-- A property of each refusal and of each deed holds for whatever is judged, check by check.
use Rattle.std.proofs.Common.{Option, Ok, Err, List}
use Rattle.std.specs.Prelude.{ℕ, ok_or}
use Rattle.hippo_model.specs.declared.audit.Pair.{Pair}
use Rattle.hippo_model.specs.declared.entry.Act.{Act}
use Rattle.hippo_model.specs.declared.name_fault.NameFault.{NameFault}
use Rattle.hippo_stmt_ast.specs.declared.statement.RawSelect.{RawSelect}
use Rattle.hippo_stmt_ast.specs.declared.statement.Stmt.{Stmt}
use Rattle.hippo_model.specs.declared.wanted.Wanted.{Wanted}
use Rattle.hippo_model.specs.Terms.{History}
use Rattle.hippo_values.specs.Texts.{Txt}
use Rattle.hippo_values.specs.declared.names.Name.{Name}
use Rattle.hippo_values.specs.Results.{◌>>=◌}
use Rattle.hippo_typing_catalog.specs.Catalogs.{known_at}
use Rattle.hippo_typing_catalog.specs.ChangesRefused.{change_refused}
use Rattle.hippo_typing_catalog.specs.ChangesWanted.{wanted_by}
use Rattle.hippo_tables.specs.Finished.{finished_act}
use Rattle.hippo_report.specs.declared.refusal.Refusal.{Refusal}
use Rattle.hippo_report.specs.declared.speaker.Speaker.{Speaker}
use Rattle.hippo_report.specs.declared.refusal.Refusal.TheVariants.{BadSyntax, NoCursor}
use Rattle.hippo_engine_sessions.specs.declared.cursors.Cursor.{Cursor as HeldCursor}
use Rattle.hippo_engine_sessions.specs.declared.sessions.Session.{Session}
use Rattle.hippo_engine_sessions.specs.Worlds.{World, at_number}
use Rattle.hippo_engine_checks.specs.declared.asking.Delivery.{Delivery}
use Rattle.hippo_engine_checks.specs.declared.asking.AnswerForm.{AnswerForm}
use Rattle.hippo_engine_checks.specs.Deeds.{Deed, Question}
use Rattle.hippo_engine_checks.specs.Deeds as deeds
use Rattle.hippo_engine_checks.specs.Checks.{Checked, by_console, by_session, open_session, may_log_in, unless_refused, act_made, has_room}
use Rattle.hippo_engine_checks.specs.Judging.{judged_login, judged_logout, judged_wanted, judged_change, loaded_insert, judged_load, question_in, delivery_for, deed_for, judged_question}

module _ (Holds : Checked Deed → Type 0) (if_refused : (refusal : Refusal) → Holds (Err refusal)) where
  pub check : {A : Type 0} (found : Checked A) (next : A → Checked Deed) → ((one : A) → Holds (next one)) → Holds (found >>= next)
  check (Ok one) next all = all one
  check (Err refusal) next all = if_refused refusal

  made : (history : History) (world : World) (wanted : Wanted) → ((act : Act) → Holds (Ok (deeds.change act))) → Holds (judged_wanted history world wanted)
  made history world wanted done =
      check {A = Act} (act_made (finished_act history wanted)) (λ act. has_room history world >>= λ room. Ok (deeds.change act))
      (λ act. check {A = Unit {0}} (has_room history world) (λ room. Ok (deeds.change act)) (λ room. done act))

  pub if_changed : (history : History) (world : World) (who : Speaker) (statement : Stmt) → ((act : Act) → Holds (Ok (deeds.change act))) → Holds (judged_change history world who statement)
  if_changed history world who statement done =
      let refusals : List NameFault = change_refused (known_at history) statement in
      let wanted : Option Wanted = wanted_by (known_at history) statement in
      check {A = Unit {0}} (by_console who)
      (λ console. unless_refused refusals wanted >>= λ found. ok_or found BadSyntax >>= λ one. judged_wanted history world one)
      (λ console. check {A = Option Wanted} (unless_refused refusals wanted) (λ found. ok_or found BadSyntax >>= λ one. judged_wanted history world one)
      (λ found. check {A = Wanted} (ok_or found BadSyntax) (λ one. judged_wanted history world one) (λ one. made history world one done)))

  pub if_loaded : (history : History) (world : World) (who : Speaker) (table : Name) (text : Txt) → ((act : Act) → Holds (Ok (deeds.change act))) → Holds (judged_load history world who table text)
  if_loaded history world who table text done =
      check {A = Unit {0}} (by_console who) (λ console. loaded_insert (known_at history) table text >>= λ insert. judged_change history world who insert)
      (λ console. check {A = Stmt} (loaded_insert (known_at history) table text) (λ insert. judged_change history world who insert)
      (λ insert. if_changed history world who insert done))

  delivered : (history : History) (world : World) (handing : AnswerForm) (session : Session) (question : Question) → ((delivery : Delivery) → Holds (Ok (deed_for session question delivery)))
      → Holds (delivery_for handing session >>= λ delivery. has_room history world >>= λ room. Ok (deed_for session question delivery))
  delivered history world handing session question done =
      check {A = Delivery} (delivery_for handing session) (λ delivery. has_room history world >>= λ room. Ok (deed_for session question delivery))
      (λ delivery. check {A = Unit {0}} (has_room history world) (λ room. Ok (deed_for session question delivery)) (λ room. done delivery))

  pub if_asked : (history : History) (world : World) (handing : AnswerForm) (who : Speaker) (written : RawSelect) (text : Txt)
      → ((session : Session) (question : Question) (delivery : Delivery) → Holds (Ok (deed_for session question delivery)))
      → Holds (judged_question handing history world who written text)
  if_asked history world handing who written text done =
      check {A = ℕ} (by_session who)
      (λ number. question_in history world number written text >>= λ question. open_session world number >>= λ session. delivery_for handing session >>= λ delivery. has_room history world >>= λ room. Ok (deed_for session question delivery))
      (λ number. check {A = Question} (question_in history world number written text)
      (λ question. open_session world number >>= λ session. delivery_for handing session >>= λ delivery. has_room history world >>= λ room. Ok (deed_for session question delivery))
      (λ question. check {A = Session} (open_session world number)
      (λ session. delivery_for handing session >>= λ delivery. has_room history world >>= λ room. Ok (deed_for session question delivery))
      (λ session. delivered history world handing session question (done session question))))

  pub if_logged_in : (history : History) (world : World) (who : Speaker) (user : Name) (pair : Pair) → ((number : ℕ) → Holds (Ok (deeds.log_in number user pair))) → Holds (judged_login history world who user pair)
  if_logged_in history world who user pair done =
      check {A = ℕ} (by_session who) (λ number. may_log_in history world number user pair >>= λ allowed. Ok (deeds.log_in number user pair))
      (λ number. check {A = Unit {0}} (may_log_in history world number user pair) (λ allowed. Ok (deeds.log_in number user pair)) (λ allowed. done number))

  pub if_logged_out : (world : World) (who : Speaker) → ((number : ℕ) → Holds (Ok (deeds.log_out number))) → Holds (judged_logout world who)
  if_logged_out world who done =
      check {A = ℕ} (by_session who) (λ number. open_session world number >>= λ session. Ok (deeds.log_out number))
      (λ number. check {A = Session} (open_session world number) (λ session. Ok (deeds.log_out number)) (λ session. done number))

  -- with a cursor of the session that speaks
  pub if_held : (world : World) (who : Speaker) (at : ℕ) (next : ℕ → Session → HeldCursor → Checked Deed) → ((number : ℕ) (session : Session) (cursor : HeldCursor) → Holds (next number session cursor))
      → Holds (by_session who >>= λ number. open_session world number >>= λ session. ok_or (at_number session.cursors at) (NoCursor at) >>= λ cursor. next number session cursor)
  if_held world who at next all =
      check {A = ℕ} (by_session who) (λ number. open_session world number >>= λ session. ok_or (at_number session.cursors at) (NoCursor at) >>= λ cursor. next number session cursor)
      (λ number. check {A = Session} (open_session world number) (λ session. ok_or (at_number session.cursors at) (NoCursor at) >>= λ cursor. next number session cursor)
      (λ session. check {A = HeldCursor} (ok_or (at_number session.cursors at) (NoCursor at)) (λ cursor. next number session cursor) (λ cursor. all number session cursor)))
