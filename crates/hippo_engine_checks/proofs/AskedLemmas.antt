-- A question that passes its checks may follow the history.
use Rattle.std.proofs.Common.{◌≡◌, ◌∙◌, refl, sym, ap, subst, ℕ, ◌+◌, ◌<◌, ◌≤◌, ◌^◌, true, List, [], length, Some, Ok}
use Rattle.hippo_values.specs.Limits.{line_limit}
use Rattle.hippo_values.specs.Moments.{is_moment}
use Rattle.hippo_values.specs.Texts.{Txt}
use Rattle.hippo_values.specs.Results.{◌>>=◌}
use Rattle.hippo_model.specs.declared.entry.Act.TheVariants.{Asked}
use Rattle.hippo_model.specs.declared.entry.Entry.{Entry}
use Rattle.hippo_model.specs.declared.name_fault.NameFault.{NameFault}
use Rattle.hippo_model.specs.declared.policy.Authorization.{Authorization}
use Rattle.hippo_model.specs.declared.policy.Authorization.TheVariants.{Yes, No}
use Rattle.hippo_model.specs.declared.query.Query.{Query}
use Rattle.hippo_stmt_ast.specs.declared.statement.RawSelect.{RawSelect}
use Rattle.hippo_model.specs.Rules.{authorized_at}
use Rattle.hippo_model.specs.Terms.{History}
use Rattle.hippo_model.specs.Validity.{may_follow}
use Rattle.hippo_typing_catalog.specs.Catalogs.{known_at}
use Rattle.hippo_typing_catalog.specs.Selects.{select_refused, query_of}
use Rattle.hippo_typing.specs.Meanings.{meaning}
use Rattle.hippo_typing_laws.specs.ReadingLaws.{select_place as question_in_statement}
use Rattle.hippo_typing_laws.specs.Written.{names_fit}
use Rattle.hippo_typing_laws.proofs.AskedTheorem.{questions_may_follow}
use Rattle.hippo_replay.specs.declared.state.State.{State}
use Rattle.hippo_replay.specs.Standing.{Represents, MayFollow, IsTimely}
use Rattle.hippo_engine_sessions.specs.declared.sessions.Session.{Session}
use Rattle.hippo_engine_sessions.specs.Worlds.{World, session_at}
use Rattle.hippo_engine_checks.specs.declared.asking.Asking.{Asking}
use Rattle.hippo_engine_checks.specs.declared.asking.Delivery.{Delivery}
use Rattle.hippo_engine_checks.specs.declared.asking.Delivery.TheVariants as delivered
use Rattle.hippo_engine_checks.specs.declared.asking.AnswerForm.{AnswerForm}
use Rattle.hippo_engine_checks.specs.declared.asking.AnswerForm.TheVariants.{Rows, Records, Cursor}
use Rattle.hippo_engine_checks.specs.declared.asking.WrittenQuestion.{WrittenQuestion}
use Rattle.hippo_engine_checks.specs.Asking.{question_of, statement_asked, written_command, written_text, deed_asked, IsAnswerable}
use Rattle.hippo_engine_checks.proofs.FindingLemmas.{is_there, refused_or_short}
use Rattle.hippo_report.specs.declared.refusal.Refusal.{Refusal}
use Rattle.hippo_engine_checks.specs.Checks.{Checked, Refuses, open_session, allowed_by, by_authorized_user as authorized, unless_refused, has_room}
use Rattle.hippo_engine_checks.specs.Deeds.{Deed, Question}
use Rattle.hippo_engine_checks.specs.Deeds as deeds
use Rattle.hippo_engine_checks.specs.Judging.{question_in, delivery_for, deed_for, judged_question, judged}
use Rattle.hippo_engine_checks.proofs.AskingLemmas.{judged_written}
use Rattle.hippo_engine_checks.proofs.FollowingLemmas.{passed, found_same, unrefused, has_room_at}
use Rattle.hippo_engine_checks.specs.declared.deeds.Question.{Question as AskedQuestion}
use Rattle.hippo_engine_checks.specs.Findings.{IsOfLine, IsRefused, MayBeAsked}
use Rattle.hippo_report.specs.declared.speaker.Speaker.TheVariants as speaker
use Rattle.hippo_engine_checks.specs.Asking.{question_entry}

-- the question that a deed asks
abbrev question_asked : Question → Checked Deed → Question
question_asked other (Ok (deeds.answer_question question)) = question
question_asked other (Ok (deeds.extract question)) = question
question_asked other (Ok (deeds.open_cursor session number question)) = question
question_asked other judgement = other

asked_so : (session : Session) (question other : Question) (delivery : Delivery) → question_asked other (Ok (deed_for session question delivery)) ≡ question
asked_so session question other delivered.Rows = refl
asked_so session question other delivered.Records = refl
asked_so session question other (delivered.Cursor number) = refl

allowed_so : (word : Authorization) (allowed : Unit {0}) → allowed_by word ≡ Ok allowed → word ≡ Yes
allowed_so Yes allowed is = refl
allowed_so (No number) allowed is = absurd cc

-- what is known of a question that passes its checks
record IsAsked (history : History) (select : RawSelect) (text : Txt) (asking : Asking) : Type 0 where
  authorized : authorized_at history asking.asker.now.user asking.asker.now.pair.purpose asking.asker.now.pair.recipient ≡ Yes
  unrefused : select_refused (known_at history) select ≡ []
  text_is : text ≡ asking.text.now

module _ (handing : AnswerForm) (history : History) (world : World) (number : ℕ) (select : RawSelect) (text : Txt) (asking : Asking) where
  abbrev refusals : List NameFault
  refusals = select_refused (known_at history) select

  abbrev form : Query
  form = query_of (known_at history) select

  abbrev made : Session → Query → Question
  made session query = record { session = number; user = session.user; pair = session.pair; text = text; query = query }

  abbrev deed : Deed
  deed = deed_asked number asking

  from_question : (question : Question) → question_in history world number select text ≡ Ok question → question ≡ question_of number asking → IsAsked history select text asking
  from_question question is same =
      let opened = passed {A = Session} (open_session world number)
      (λ session. authorized history session.user session.pair >>= λ allowed. unless_refused refusals form >>= λ query. Ok (made session query)) question is in
      let allowed = passed {A = Unit {0}} (authorized history opened.found.user opened.found.pair)
      (λ allowed. unless_refused refusals form >>= λ query. Ok (made opened.found query)) question opened.on in
      let means = passed {A = Query} (unless_refused refusals form) (λ query. Ok (made opened.found query)) question allowed.on in
      let made_is : made opened.found means.found ≡ question_of number asking = found_same (made opened.found means.found) question means.on ∙ same in
      let user : opened.found.user ≡ asking.asker.now.user = ap (λ (question : Question). question.user) made_is in
      let pair : opened.found.pair ≡ asking.asker.now.pair = ap (λ (question : Question). question.pair) made_is in
      let yes = allowed_so (authorized_at history opened.found.user opened.found.pair.purpose opened.found.pair.recipient) allowed.found allowed.is in
      let who : authorized_at history asking.asker.now.user asking.asker.now.pair.purpose asking.asker.now.pair.recipient
      ≡ authorized_at history opened.found.user opened.found.pair.purpose opened.found.pair.recipient =
      λ i. authorized_at history (sym user i) (sym pair i).purpose (sym pair i).recipient in
      record {
        authorized = who ∙ yes;
        unrefused = (unrefused refusals form means.found means.is).0;
        text_is = ap (λ (question : Question). question.text) made_is;
      }

  is_asked : judged_question handing history world (speaker.Session number) select text ≡ Ok deed → IsAsked history select text asking
  is_asked is =
      let asks = passed {A = Question} (question_in history world number select text)
      (λ question. open_session world number >>= λ session. delivery_for handing session >>= λ delivery. has_room history world >>= λ room. Ok (deed_for session question delivery)) deed is in
      let opened = passed {A = Session} (open_session world number)
      (λ session. delivery_for handing session >>= λ delivery. has_room history world >>= λ room. Ok (deed_for session asks.found delivery)) deed asks.on in
      let handed = passed {A = Delivery} (delivery_for handing opened.found)
      (λ delivery. has_room history world >>= λ room. Ok (deed_for opened.found asks.found delivery)) deed opened.on in
      let room = passed {A = Unit {0}} (has_room history world) (λ room. Ok (deed_for opened.found asks.found handed.found)) deed handed.on in
      from_question asks.found asks.is
      (sym (asked_so opened.found asks.found asks.found handed.found) ∙ (ap (question_asked asks.found) room.on
      ∙ asked_so asking.asker.now (question_of number asking) asks.found asking.delivery))

-- the statement that asks the question has this select between these offsets
asks_select : (handing : AnswerForm) (select : RawSelect) (start end : ℕ) → question_in_statement (statement_asked handing select start end) ≡ Some (select, start, end)
asks_select Rows select start end = refl
asks_select Records select start end = refl
asks_select Cursor select start end = refl

-- the entry of a question that was found may follow the history
pub question_follows : (state : State) (held : World) (session : ℕ) (written : WrittenQuestion) (text : Txt) (asking : Asking)
    → IsTimely state held.clock → is_moment held.clock ≡ true → names_fit asking.asker.now.user asking.asker.now.pair.purpose asking.asker.now.pair.recipient ≡ true
    → IsOfLine (written_command session written text) → length (written_text written text) ≤ line_limit → state.count + 1 < 2 ^ 63
    → ((history : History) → Represents state history → judged history held (written_command session written text) ≡ Ok (deed_asked session asking))
    → MayFollow state (question_entry state held.clock (question_of 0 asking))
question_follows state held session written text asking timely fits names of_line short below found = λ history stands.
    let asker : Session = asking.asker.now in
    let part : Txt = written_text written text in
    let number : state.count + 1 ≡ length history + 1 = ap (λ (n : ℕ). n + 1) stands.count in
    let asked = is_asked written.handing history held session written.select.now part asking
    (sym (judged_written written text history held session) ∙ found history stands) in
    let room = has_room_at state history held.clock (state.count + 1) stands timely fits number below in
    let follows = questions_may_follow history held.clock asker.user asker.pair.purpose asker.pair.recipient text written.select.now written.start written.end room (record {
      utf8 = of_line.1.utf8;
      short = short;
      reads = of_line.1.reads written.select.now written.start written.end (asks_select written.handing written.select.now written.start written.end);
      unrefused = asked.unrefused;
      names = names;
      authorized = asked.authorized;
    }) in
    let same : question_entry state held.clock (question_of 0 asking) ≡ record { seq = length history + 1; moment = held.clock; act = Asked asker.user asker.pair.purpose asker.pair.recipient part } =
    λ i. record { seq = number i; moment = held.clock; act = Asked asker.user asker.pair.purpose asker.pair.recipient (sym asked.text_is i) } in
    subst (λ (entry : Entry). may_follow meaning history entry ≡ true) (sym same) follows

-- a question that was found may be asked
pub may_be_asked : (state : State) (held : World) (session : ℕ) (written : WrittenQuestion) (text : Txt) (asking : Asking) (question : AskedQuestion)
    → IsTimely state held.clock → is_moment held.clock ≡ true → names_fit asking.asker.now.user asking.asker.now.pair.purpose asking.asker.now.pair.recipient ≡ true
    → IsOfLine (written_command session written text) → length (written_text written text) ≤ line_limit → state.count + 1 < 2 ^ 63 → IsAnswerable state asking.query
    → open_session held session ≡ Ok asking.asker.now → question.session ≡ session → asking.text.now ≡ question.text.now → question.query ≡ asking.query
    → ((history : History) → Represents state history → judged_question written.handing history held (speaker.Session session) written.select.now (written_text written text) ≡ Ok (deed_asked session asking))
    → MayBeAsked (written_command session written text) question asking.delivery state held
may_be_asked state held session written text asking question timely fits names of_line short below answerable opened own same query found =
    let asker : Session = asking.asker.now in
    let judged_is : (history : History) → Represents state history → judged history held (written_command session written text) ≡ Ok (deed_asked session asking) =
    λ history stands. judged_written written text history held session ∙ found history stands in
    record {
      asker = asker;
      there = subst (λ (n : ℕ). session_at held n ≡ Some asker) (sym own) (is_there held session asker opened);
      who = ap speaker.Session (sym own);
      memory = refl;
      does = λ history stands.
          judged_is history stands
          ∙ (λ i. Ok (deed_for asker (record { session = sym own i; user = asker.user; pair = asker.pair; text = same i; query = sym query i }) asking.delivery));
      answerable = subst (λ (q : Query). IsAnswerable state q) (sym query) answerable;
      below = below;
      follows = subst (λ (q : Question). MayFollow state (question_entry state held.clock q))
          (λ i. record { session = 0; user = asker.user; pair = asker.pair; text = same i; query = sym query i })
          (question_follows state held session written text asking timely fits names of_line short below judged_is);
    }

-- otherwise it is refused
pub refused_question : (state : State) (held : World) (session : ℕ) (written : WrittenQuestion) (text : Txt) (refusal : Refusal)
    → ((history : History) → Represents state history → Refuses (judged_question written.handing history held (speaker.Session session) written.select.now (written_text written text)) refusal)
    → IsRefused (written_command session written text) refusal state held
refused_question state held session written text refusal refuses =
    refused_or_short (written_command session written text) refusal state held refl
    (λ history stands. subst (λ (judgement : Checked Deed). Refuses judgement refusal) (sym (judged_written written text history held session)) (refuses history stands))
