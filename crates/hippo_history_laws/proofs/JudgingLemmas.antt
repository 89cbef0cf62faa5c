-- The checks of the lines of a script.
use Rattle.std.proofs.Common.{◌≡◌, ◌∙◌, ◌<◌, Bool, true, false, List, [], ◌∷◌, length, Option, Some, None, Result, Ok, refl, ap, arith, ℤ}
use Rattle.std.specs.Prelude.{int_le, int_lt, is_none, is_some, nat_le, ok_or, slice_get, slice_set}
use Rattle.std.specs.Option.{option_flatten, option_map_or}
use Rattle.std.proofs.lemmas.Bool.{lt-leb}
use Rattle.std.proofs.lemmas.Int.{ints}
use Rattle.hippo_values.specs.Texts.{Txt}
use Rattle.hippo_values.specs.declared.moments.Moment.{Moment}
use Rattle.hippo_values.specs.declared.names.Name.{Name}
use Rattle.hippo_values.specs.Results.{◌>>=◌}
use Rattle.hippo_model.specs.declared.audit.Pair.{Pair}
use Rattle.hippo_model.specs.declared.entry.Act.{Act}
use Rattle.hippo_model.specs.declared.name_fault.NameFault.{NameFault}
use Rattle.hippo_model.specs.declared.policy.Authorization.{Authorization}
use Rattle.hippo_model.specs.declared.policy.Authorization.TheVariants.{Yes}
use Rattle.hippo_model.specs.declared.query.Query.{Query}
use Rattle.hippo_stmt_ast.specs.declared.statement.RawSelect.{RawSelect}
use Rattle.hippo_model.specs.Rules.{authorized_at}
use Rattle.hippo_stmt_ast.specs.declared.statement.Stmt.{Stmt}
use Rattle.hippo_stmt_ast.specs.declared.statement.Stmt.TheVariants as stmt
use Rattle.hippo_model.specs.declared.wanted.Wanted.{Wanted}
use Rattle.hippo_model.specs.declared.table_fault.TableFault.{TableFault}
use Rattle.hippo_model.specs.Terms.{History}
use Rattle.hippo_typing_catalog.specs.Catalogs.{known_at}
use Rattle.hippo_typing_catalog.specs.ChangesRefused.{change_refused}
use Rattle.hippo_typing_catalog.specs.ChangesWanted.{wanted_by}
use Rattle.hippo_typing_catalog.specs.Selects.{query_of, select_refused}
use Rattle.hippo_tables.specs.Finished.{finished_act}
use Rattle.hippo_report.specs.declared.refusal.Refusal.TheVariants.{BadSyntax, HistoryFull, MomentBack, NoSession, SessionOpen}
use Rattle.hippo_engine_sessions.specs.declared.sessions.Session.{Session}
use Rattle.hippo_engine_sessions.specs.Worlds.{World, new_session, with_session}
use Rattle.hippo_engine_checks.specs.declared.asking.AnswerForm.TheVariants.{Rows}
use Rattle.hippo_report.specs.declared.speaker.Speaker.TheVariants.{Console}
use Rattle.hippo_report.specs.declared.speaker.Speaker.TheVariants as speaker
use Rattle.hippo_engine_checks.specs.Checks.{Checked, act_made, allowed_by, by_authorized_user, has_room, unless_refused, open_session, refused_if}
use Rattle.hippo_engine_checks.specs.Deeds as deeds
use Rattle.hippo_engine_checks.specs.Deeds.{Question}
use Rattle.hippo_engine_checks.specs.Judging.{deed_for, delivery_for, judged_change, judged_clock, judged_login, judged_logout, judged_question, judged_statement, judged_wanted, question_in}
use Rattle.hippo_history_laws.specs.ScriptLaws.{is_free}

-- a statement that asks for an act is checked as a change
changes-judged : (history : History) (world : World) (statement : Stmt) (text : Txt)
    (wanted : Wanted) → wanted_by (known_at history) statement ≡ Some wanted
    → judged_statement history world Console statement text ≡ judged_change history world Console statement
changes-judged history world (stmt.Select select start end) text wanted wants = absurd cc
changes-judged history world (stmt.Ask select start end) text wanted wants = absurd cc
changes-judged history world (stmt.Extract select start end) text wanted wants = absurd cc
changes-judged history world (stmt.Explain question) text wanted wants = absurd cc
changes-judged history world (stmt.Audit audit) text wanted wants = absurd cc
changes-judged history world (stmt.BeginAudit audit) text wanted wants = absurd cc
changes-judged history world (stmt.Watch audit) text wanted wants = absurd cc
changes-judged history world statement text wanted wants = refl

-- a statement in which nothing is refused makes the act that it asks for, if the history has room
pub change-judged : (history : History) (world : World) (statement : Stmt) (text : Txt)
    (wanted : Wanted) (act : Act) → change_refused (known_at history) statement ≡ []
    → wanted_by (known_at history) statement ≡ Some wanted → finished_act history wanted ≡ Ok act
    → length history < world.limit
    → judged_statement history world Console statement text ≡ Ok (deeds.change act)
change-judged history world statement text wanted act unrefused wants comes room =
    let full : nat_le world.limit (length history) ≡ false =
    lt-leb world.limit (length history) room in
    changes-judged history world statement text wanted wants
    ∙ ap (λ (refusals : List NameFault). unless_refused refusals (wanted_by (known_at history) statement) >>=
    λ change. (ok_or change BadSyntax >>= λ made. judged_wanted history world made)) unrefused
    ∙ ap (λ (change : Option Wanted). ok_or change BadSyntax >>= λ made. judged_wanted history world
    made) wants
    ∙ ap (λ (made : Result Act TableFault). act_made made >>=
    λ change. (has_room history world >>= λ free. Ok (deeds.change change))) comes
    ∙ ap (λ (test : Bool). refused_if test HistoryFull >>= λ free. Ok (deeds.change act)) full

not_back : (clock moment : ℤ) → int_le clock moment ≡ true → int_lt moment clock ≡ false
not_back clock moment clamped_number = grind (arith, ints)

-- the clock may be set to a moment that is not earlier
pub clock-judged : (world : World) (moment : Moment) → int_le world.clock moment ≡ true
    → judged_clock world moment ≡ Ok (deeds.set_clock moment)
clock-judged world moment clamped_number =
    ap (λ (test : Bool). refused_if test (MomentBack world.clock) >>= λ set. Ok
    (deeds.set_clock moment)) (not_back world.clock moment clamped_number)

-- session 1 may be opened if it is free
abbrev pub logged : World → Name → Pair → World
logged world user pair = with_session world 1 (Some (new_session user pair))

empty_slots : (held : Option (Option Session)) → option_map_or is_none held false ≡ true
    → option_flatten held ≡ None
empty_slots None free = absurd cc
empty_slots (Some None) free = refl
empty_slots (Some (Some session)) free = absurd cc

opened_at : (sessions : List (Option Session)) (session : Session)
    → option_map_or is_none (slice_get sessions 0) false ≡ true
    → option_flatten (slice_get (slice_set sessions 0 (Some session)) 0) ≡ Some session
opened_at [] session free = absurd cc
opened_at (held ∷ sessions) session free = refl

-- after it ends, the sessions are as before it
closed_at : (sessions : List (Option Session)) (session : Session)
    → option_map_or is_none (slice_get sessions 0) false ≡ true
    → slice_set (slice_set sessions 0 (Some session)) 0 None ≡ sessions
closed_at [] session free = absurd cc
closed_at (None ∷ sessions) session free = refl
closed_at (Some held ∷ sessions) session free = absurd cc

pub ended-again : (world : World) (user : Name) (pair : Pair) → is_free world ≡ true
    → with_session (logged world user pair) 1 None ≡ world
ended-again world user pair free =
    ap (λ (sessions : List (Option Session)). record world { sessions = sessions })
    (closed_at world.sessions (new_session user pair) free)

module _ (history : History) (world : World) (user : Name) (pair : Pair)
    (free : is_free world ≡ true)
    (may : authorized_at history user pair.purpose pair.recipient ≡ Yes) where
  -- an authorized user may log in
  pub login-judged : judged_login history world (speaker.Session 1) user pair ≡ Ok (deeds.log_in 1 user pair)
  login-judged =
      ap (λ (held : Option Session). (refused_if (is_some held) SessionOpen >>= λ closed.
      by_authorized_user history user pair) >>= λ allowed. Ok (deeds.log_in 1 user pair))
      (empty_slots (slice_get world.sessions 0) free)
      ∙ ap (λ (said : Authorization). allowed_by said >>= λ allowed. Ok (deeds.log_in 1 user pair))
      may

  stands_open : open_session (logged world user pair) 1 ≡ Ok (new_session user pair)
  stands_open =
      ap (λ (held : Option Session). ok_or held NoSession)
      (opened_at world.sessions (new_session user pair) free)

  pub logout-judged : judged_logout (logged world user pair) (speaker.Session 1) ≡ Ok (deeds.log_out 1)
  logout-judged =
      ap (λ (opened : Checked Session). opened >>= λ session. Ok (deeds.log_out 1)) stands_open

-- then the user may ask a question in which nothing is refused, if the history has room
abbrev pub question_so : Name → Pair → Txt → Query → Question
question_so user pair text query =
    record { session = 1; user = user; pair = pair; text = text; query = query }

asked_by_it : Txt → Session → Checked Query → Checked Question
asked_by_it text asker found = found >>= λ q. Ok (question_so asker.user asker.pair text q)

module _ (history : History) (world : World) (user : Name) (pair : Pair)
    (free : is_free world ≡ true)
    (may : authorized_at history user pair.purpose pair.recipient ≡ Yes) (select : RawSelect)
    (text : Txt) (right : select_refused (known_at history) select ≡ [])
    (room : length history < world.limit) where
  abbrev query : Query
  query = query_of (known_at history) select

  question_found : question_in history (logged world user pair) 1 select text
      ≡ Ok (question_so user pair text query)
  unfolding asked_by_it
  question_found =
      ap (λ (opened : Checked Session). opened >>= λ asker.
      by_authorized_user history asker.user asker.pair >>= λ allowed.
      asked_by_it text asker (unless_refused (select_refused (known_at history) select) query))
      (stands_open history world user pair free may)
      ∙ ap (λ (said : Authorization). allowed_by said >>= λ allowed. asked_by_it text
      (new_session user pair) (unless_refused (select_refused (known_at history) select) query)) may
      ∙ ap (λ (refusals : List NameFault). asked_by_it text (new_session user pair)
      (unless_refused refusals query)) right

  pub question-judged : judged_question Rows history (logged world user pair) (speaker.Session 1) select text
      ≡ Ok (deeds.answer_question (question_so user pair text query))
  question-judged =
      let w : World = logged world user pair in
      let question : Question = question_so user pair text query in
      let full : nat_le world.limit (length history) ≡ false =
      lt-leb world.limit (length history) room in
      ap (λ (found : Checked Question). found >>= λ asked. open_session w 1 >>= λ session.
      delivery_for Rows session >>= λ delivery. has_room history w >>= λ free.
      Ok (deed_for session asked delivery)) question_found
      ∙ ap (λ (opened : Checked Session). opened >>= λ session.
      delivery_for Rows session >>= λ delivery. has_room history w >>= λ free.
      Ok (deed_for session question delivery)) (stands_open history world user pair free may)
      ∙ ap (λ (test : Bool). refused_if test HistoryFull >>= λ free. Ok (deeds.answer_question question))
      full
