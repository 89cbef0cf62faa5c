-- From storing and answering a question to what carrying out its command does.
use Rattle.std.proofs.Common.{◌≡◌, ◌⊎◌, ◌∙◌, ◌+◌, inl, inr, refl, sym, ap, subst, ℕ, true, false, List, [], ◌∷◌, ◌++◌, Option, Some, None, Result, Ok, Err, length, IfOk}
use Rattle.std.specs.Prelude.{int_le, nat_lt}
use Rattle.std.proofs.lemmas.Bool.{false≢true}
use Rattle.hippo_values.specs.Texts.{Txt}
use Rattle.hippo_model.specs.declared.entry.Entry.{Entry}
use Rattle.hippo_model.specs.Terms.{History, ShownRow}
use Rattle.hippo_report.specs.declared.speaker.Speaker.{Speaker}
use Rattle.hippo_report.specs.declared.speaker.Speaker.TheVariants as speaker
use Rattle.hippo_report.specs.declared.refusal.Refusal.TheVariants.{Memory}
use Rattle.hippo_report.specs.Refusals.{refusal_line}
use Rattle.hippo_keeper.specs.declared.faults.KeeperFault.{KeeperFault}
use Rattle.hippo_keeper.specs.declared.faults.KeeperFault.TheVariants.{Failed, Memory as KeeperMemory}
use Rattle.hippo_keeper.specs.Keeping.{KeeperState}
use Rattle.hippo_eval.specs.declared.answers.EvalFault.{EvalFault}
use Rattle.hippo_replay.specs.declared.state.State.{State}
use Rattle.hippo_replay.specs.Standing.{Represents, IsSound, IsTimely}
use Rattle.hippo_replay.proofs.StateLemmas.{latest_moment-append}
use Rattle.hippo_keeper.proofs.CallLemmas.{IsAfterCall-as}
use Rattle.hippo_keeper.proofs.Results.{ok_of, err_of, well}
use Rattle.hippo_engine_sessions.specs.declared.sessions.Session.{Session}
use Rattle.hippo_engine_world.specs.declared.worlds.World.{World as HeldWorld}
use Rattle.hippo_engine_sessions.specs.Worlds.{World, session_at}
use Rattle.hippo_engine_world.specs.Holding.{world_of, KeepsAudits, WatchesFit}
use Rattle.hippo_values.specs.declared.memory.Memory.{Memory as NoMemory}
use Rattle.hippo_engine_world.proofs.AuditLemmas.{JobsFit-more, JobsFit-same, tallies_of-same, WatchesFit-more, WatchesFit-same}
use Rattle.hippo_stmt_lines.specs.Commands.{Command, who_commands}
use Rattle.hippo_engine.specs.declared.engine.Engine.{Engine}
use Rattle.hippo_engine_queries.specs.declared.answered.Answered.{Answered}
use Rattle.hippo_engine_rules.specs.declared.faults.EngineFault.{EngineFault}
use Rattle.hippo_engine_rules.specs.declared.faults.EngineFault.TheVariants.{Keeper}
use Rattle.hippo_engine_checks.specs.declared.asking.Asking.{Asking}
use Rattle.hippo_engine_checks.specs.declared.asking.Delivery.{Delivery}
use Rattle.hippo_engine_checks.specs.declared.asking.Delivery.TheVariants as delivered
use Rattle.hippo_engine_checks.specs.Checks.{Checked}
use Rattle.hippo_engine_checks.specs.Deeds.{Deed, Question, question_act, next_entry}
use Rattle.hippo_engine_checks.specs.Judging.{deed_for, judged}
use Rattle.hippo_engine_rules.specs.Effects.{Effect, only_reply, row_limit, question_rows, within_limit, question_effect, deed_effect, effect_of, IsShortAnswer, IsOutOfMemory, IsEffect}
use Rattle.hippo_engine_checks.specs.Findings.{may_do_nothing}
use Rattle.hippo_engine_checks.specs.declared.deeds.Question.{Question as AskedQuestion}
use Rattle.hippo_engine_checks.specs.Findings.{IsJudged, question_by}
use Rattle.hippo_engine_rules.specs.Ledgers.{none_taken}
use Rattle.hippo_engine.specs.Carrying.{Carries}
use Rattle.hippo_engine.proofs.CarryingLemmas.{Carries-unkept, Holds-same, Holds-more, IsTimely-same}
use Rattle.hippo_engine_rules.proofs.ClockLemmas.{int_le-refl, either_clock}
use Rattle.hippo_engine_checks.specs.Asking.{question_of, deed_asked, question_entry}
use Rattle.hippo_engine_queries.specs.Questions.{IsAnsweredBy, KeptAnswer, Asks, answer_said, world_left, HandsOutAnswer, Replies}
use Rattle.hippo_engine_audits.specs.Watching.{alarms_now}
use Rattle.hippo_engine_rules.proofs.ShortLemmas.{takes_some, short, done_for}

-- the entry of a question is the next one
next_is : (history : History) (held : State) (world : HeldWorld) (question : Question) → Represents held history
    → question_entry held world.clock question ≡ next_entry history (world_of world) (question_act question)
next_is history held world question stands =
    let number : held.count + 1 ≡ length history + 1 = ap (λ (n : ℕ). n + 1) stands.count in
    λ i. record { seq = number i; moment = world.clock; act = question_act question }

-- a deed that asks a question, has this reply for its rows, and leaves this world
record IsQuestion (world : World) (deed : Deed) (question : Question) (said : List ShownRow → Txt) (left : List ShownRow → World) : Type 0 where
  effect : (history : History) → deed_effect history world deed ≡ question_effect history world question (said (question_rows history world question)) (left (question_rows history world question))
  short : (history : History) (reply : Txt) (result : Effect) → IsShortAnswer history world reply question result → IsOutOfMemory history world reply (Ok deed) result

-- the reply is the out-of-memory refusal, and the world is the same
record SaysShort (command : Command) (old new : Engine) : Type 0 where
  said : new.reply ≡ refusal_line (who_commands command) Memory
  same : world_of new.world ≡ world_of old.world

-- the reply is the one for these rows, followed by the watches' alarms
record SaysSo (new : Engine) (said : List ShownRow → Txt) (left : List ShownRow → World) (more : Txt) (rows : List ShownRow) : Type 0 where
  reply : new.reply ≡ said rows ++ more
  world : world_of new.world ≡ left rows

module _ (command : Command) (deed : Deed) (question : Question) (said : List ShownRow → Txt) (left : List ShownRow → World) (old new : Engine) (before after : KeeperState) (steps : ℕ)
    (takes : may_do_nothing command ≡ true) (sound : IsSound old.state) (timely : IsTimely old.state old.world.clock) (same_audits : KeepsAudits old.world new.world)
    (judged_is : (history : History) → Represents old.state history → judged history (world_of old.world) command ≡ Ok deed)
    (asks : IsQuestion (world_of old.world) deed question said left) where
  abbrev entry : Entry
  entry = question_entry old.state old.world.clock question

  effect_is : (history : History) → Represents old.state history
      → effect_of history (world_of old.world) command ≡ question_effect history (world_of old.world) question (said (question_rows history (world_of old.world) question)) (left (question_rows history (world_of old.world) question))
  effect_is history stands = done_for history (world_of old.world) command deed (judged_is history stands) ∙ asks.effect history

  abbrev shown : Effect
  shown = record { reply = new.reply; added = entry ∷ []; world = world_of new.world }

  has_effect : (history : History) → Represents old.state history
      → SaysSo new said left (alarms_now history (world_of old.world) question) (question_rows history (world_of old.world) question) ⊎ SaysShort command old new
      → IsEffect history (world_of old.world) command shown
  has_effect history stands (inl so) =
      let rows : List ShownRow = question_rows history (world_of old.world) question in
      let next = next_is history old.state old.world question stands in
      let shown_is : shown ≡ question_effect history (world_of old.world) question (said rows) (left rows) = λ i. record { reply = so.reply i; added = next i ∷ []; world = so.world i } in
      inl (shown_is ∙ sym (effect_is history stands))
  has_effect history stands (inr none) =
      let line : Txt = refusal_line (who_commands command) Memory in
      let next = next_is history old.state old.world question stands in
      let so : IsOutOfMemory history (world_of old.world) line (Ok deed) shown = asks.short history line shown (record { said = none.said; kept = inr (λ i. next i ∷ []); same = none.same }) in
      inr (takes_some command takes, subst (λ (judgement : Checked Deed). IsOutOfMemory history (world_of old.world) line judgement shown) (sym (judged_is history stands)) so)

  -- the question was stored and answered
  Carries-kept : (delivery : Delivery) (answer : Result Answered EvalFault) → new.world.clock ≡ old.world.clock → Asks entry (world_of old.world) question delivery (ok_of KeeperFault answer) old.state new.state before after
      → ((history : History) → Represents old.state history → WatchesFit history old.world → (rows : List ShownRow) → IsAnsweredBy question.session answer delivery rows
      → SaysSo new said left (alarms_now history (world_of old.world) question) rows ⊎ SaysShort command old new)
      → Carries {A = Unit {0}} command (Ok tt) old new before after steps steps
  Carries-kept delivery answer clock kept says = record {
    call = IsAfterCall-as true false (ok_of KeeperFault answer) (well KeeperFault) before after refl kept.keeps.call;
    sound = λ fine. record { history = sound.history ++ entry ∷ []; stands = kept.added sound.history sound.stands };
    timely = λ fine.
        let last : new.state.last ≡ old.world.clock = (kept.added sound.history sound.stands).last ∙ latest_moment-append sound.history entry in
        let same : int_le new.state.last new.world.clock ≡ int_le old.world.clock old.world.clock = λ i. int_le (last i) (clock i) in
        same ∙ int_le-refl old.world.clock;
    idle = λ none. refl;
    carried = λ fine tells history holds. record {
      effect = shown;
      is = has_effect history holds.stands
          (says history holds.stands holds.watches (question_rows history (world_of old.world) question) (kept.rows history holds.stands));
      reply = refl;
      world = refl;
      holds = Holds-more history entry old new before after holds (kept.added history holds.stands)
          (JobsFit-more history entry (kept.added history holds.stands).valid new.world (JobsFit-same history old.world new.world same_audits holds.jobs))
          (WatchesFit-more history entry (kept.added history holds.stands).valid new.world refl (WatchesFit-same history old.world new.world same_audits holds.watches)) (kept.keeps.kept tells);
      kept = kept.keeps.kept tells;
      counts = none_taken refl (tallies_of-same old.world new.world same_audits);
      refused = λ refusal is others. refl;
    };
    failed = λ fails. absurd (false≢true fails);
    undamaged = λ tells history holds number damaged. cc;
  }

  -- memory ran out before the question was stored
  Carries-short : (delivery : Delivery) → Asks entry (world_of old.world) question delivery (err_of (Result Answered EvalFault) KeeperMemory) old.state new.state before after
      → SaysShort command old new → Carries {A = Unit {0}} command (Ok tt) old new before after steps steps
  Carries-short delivery kept none = record {
    call = IsAfterCall-as true false (err_of (Result Answered EvalFault) KeeperMemory) (well KeeperFault) before after refl kept.keeps.call;
    sound = λ fine. subst IsSound (sym kept.same) sound;
    timely = λ fine. IsTimely-same old new kept.same (ap (λ (w : World). w.clock) none.same) timely;
    idle = λ none. refl;
    carried = λ fine tells history holds. record {
      effect = only_reply (world_of old.world) (refusal_line (who_commands command) Memory);
      is = short history (world_of old.world) command takes;
      reply = none.said;
      world = none.same;
      holds = Holds-same history old new before after holds (subst (λ (held : State). Represents held history) (sym kept.same) holds.stands)
          (JobsFit-same history old.world new.world same_audits holds.jobs) (WatchesFit-same history old.world new.world same_audits holds.watches) (kept.keeps.same refl tells);
      kept = kept.keeps.same refl tells;
      counts = none_taken refl (tallies_of-same old.world new.world same_audits);
      refused = λ refusal is others. refl;
    };
    failed = λ fails. absurd (false≢true fails);
    undamaged = λ tells history holds number damaged. cc;
  }

  -- the keeper failed
  Carries-failed : (delivery : Delivery) → Asks entry (world_of old.world) question delivery (err_of (Result Answered EvalFault) Failed) old.state new.state before after
      → Carries command (err_of (Unit {0}) Keeper) old new before after steps steps
  Carries-failed delivery kept =
      Carries-unkept command entry old new before after steps
      (λ history stands. ap (λ (effect : Effect). effect.added) (effect_is history stands) ∙ (λ i. sym (next_is history old.state old.world question stands) i ∷ [])) kept.keeps

-- ---- the asker is looked up again
asked_same : (one other : Session) → ◌≡◌ {A = Option Session} (Some one) (Some other) → one ≡ other
asked_same one other is = cc

pub asker_same : (held : Option Session) (one other : Session) → Some one ≡ held → held ≡ Some other → one ≡ other
asker_same held one other found there = asked_same one other (found ∙ there)

pub asker_missing : (held : Option Session) (asker : Session) → None ≡ held → held ≡ Some asker → ⊥
asker_missing held asker none there = let both : ◌≡◌ {A = Option Session} None (Some asker) = none ∙ there in absurd cc

pub judged_by : (command : Command) (engine : Engine) (question : AskedQuestion) (delivery : Delivery) (one other : Session) → one ≡ other
    → IsJudged command engine.state (world_of engine.world) (Ok (deed_for other (question_by other question) delivery)) → IsJudged command engine.state (world_of engine.world) (Ok (deed_for one (question_by one question) delivery))
judged_by command engine question delivery one other same does =
    subst (λ (asker : Session). IsJudged command engine.state (world_of engine.world) (Ok (deed_for asker (question_by asker question) delivery))) (sym same) does

module _ (session : ℕ) (asks_it : Command) (asked_for : Asking) (who : who_commands asks_it ≡ speaker.Session session) (takes : may_do_nothing asks_it ≡ true) (old new : Engine) (before after : KeeperState) (steps : ℕ) (sound : IsSound old.state) (timely : IsTimely old.state old.world.clock) (same_audits : KeepsAudits old.world new.world) where
  -- a question that is not refused
  abbrev question : Question
  question = question_of session asked_for

  abbrev is_said : List ShownRow → Txt
  is_said rows = within_limit session rows (answer_said session asked_for.delivery rows)

  abbrev is_left : List ShownRow → World
  is_left rows = world_left (world_of old.world) session asked_for.asker.now asked_for.delivery rows

  is_question : (delivery : Delivery) → IsQuestion (world_of old.world) (deed_for asked_for.asker.now question delivery) question
      (λ rows. within_limit session rows (answer_said session delivery rows)) (λ rows. world_left (world_of old.world) session asked_for.asker.now delivery rows)
  is_question delivered.Rows = record { effect = λ history. refl; short = λ history reply result answer. answer }
  is_question delivered.Records = record { effect = λ history. refl; short = λ history reply result answer. answer }
  is_question (delivered.Cursor cursor) = record { effect = λ history. refl; short = λ history reply result answer. answer }

  said_to : refusal_line (speaker.Session session) Memory ≡ refusal_line (who_commands asks_it) Memory
  said_to = ap (λ (one : Speaker). refusal_line one Memory) (sym who)

  says : session_at (world_of old.world) session ≡ Some asked_for.asker.now → (rows : List ShownRow) (alarms : Result Txt NoMemory) (more : Txt) → IfOk alarms (λ said. said ≡ more)
      → HandsOutAnswer session asked_for.delivery rows alarms new.reply (world_of old.world) (world_of new.world)
      → SaysSo new is_said is_left more rows ⊎ SaysShort asks_it old new
  says there rows (Ok said) more is (inl out) =
      inl (record { reply = out.said ∙ ap (λ (remaining : Txt). is_said rows ++ remaining) is; world = out.left asked_for.asker.now there })
  says there rows (Ok said) more is (inr none) = inr (record { said = none.said ∙ said_to; same = none.same })
  says there rows (Err fault) more is none = inr (record { said = none.said ∙ said_to; same = none.same })

  -- an answer leaves the clock unchanged
  delivery_clock : (delivery : Delivery) (rows : List ShownRow) → (world_left (world_of old.world) session asked_for.asker.now delivery rows).clock ≡ old.world.clock
  delivery_clock delivered.Rows rows = refl
  delivery_clock delivered.Records rows = refl
  delivery_clock (delivered.Cursor cursor) rows = either_clock (nat_lt row_limit (length rows)) (world_of old.world) _ refl

  clock_left : session_at (world_of old.world) session ≡ Some asked_for.asker.now → (rows : List ShownRow) (alarms : Result Txt NoMemory)
      → HandsOutAnswer session asked_for.delivery rows alarms new.reply (world_of old.world) (world_of new.world) → new.world.clock ≡ old.world.clock
  clock_left there rows (Ok said) (inl out) = ap (λ (w : World). w.clock) (out.left asked_for.asker.now there) ∙ delivery_clock asked_for.delivery rows
  clock_left there rows (Ok said) (inr none) = ap (λ (w : World). w.clock) none.same
  clock_left there rows (Err fault) none = ap (λ (w : World). w.clock) none.same

  -- the watches' alarms, for every history that the state represents
  abbrev AreAlarms : Result Txt NoMemory → Type 0
  AreAlarms alarms =
      IfOk alarms (λ said. (number : ℕ) (history : History) → Represents old.state history → WatchesFit history old.world
      → said ≡ alarms_now history (world_of old.world) (question_of number asked_for))

  of_history : (alarms : Result Txt NoMemory) → AreAlarms alarms → (history : History) → Represents old.state history → WatchesFit history old.world
      → IfOk alarms (λ said. said ≡ alarms_now history (world_of old.world) question)
  of_history (Ok said) are history stands fit = are session history stands fit
  of_history (Err fault) are history stands fit = tt

  pub Carries-question : session_at (world_of old.world) session ≡ Some asked_for.asker.now
      → ((history : History) → Represents old.state history → judged history (world_of old.world) asks_it ≡ Ok (deed_asked session asked_for))
      → (kept : KeptAnswer) → Asks (question_entry old.state old.world.clock question) (world_of old.world) question asked_for.delivery kept old.state new.state before after
      → (alarms : Result Txt NoMemory) → AreAlarms alarms
      → (result : Result (Unit {0}) EngineFault) → Replies session asked_for.delivery alarms kept result new.reply (world_of old.world) (world_of new.world)
      → Carries asks_it result old new before after steps steps
  Carries-question there judged_is (Ok answer) asks alarms are result replies =
      subst (λ (r : Result (Unit {0}) EngineFault). Carries asks_it r old new before after steps steps) (sym replies.0)
      (Carries-kept asks_it (deed_asked session asked_for) question is_said is_left old new before after steps takes sound timely same_audits judged_is (is_question asked_for.delivery) asked_for.delivery answer
      (clock_left there (question_rows sound.history (world_of old.world) question) alarms (replies.1 (question_rows sound.history (world_of old.world) question) (asks.rows sound.history sound.stands))) asks
      (λ history stands fit rows answered. says there rows alarms (alarms_now history (world_of old.world) question) (of_history alarms are history stands fit) (replies.1 rows answered)))
  Carries-question there judged_is (Err KeeperMemory) asks alarms are result replies =
      subst (λ (r : Result (Unit {0}) EngineFault). Carries asks_it r old new before after steps steps) (sym replies.0.0)
      (Carries-short asks_it (deed_asked session asked_for) question is_said is_left old new before after steps takes sound timely same_audits judged_is (is_question asked_for.delivery) asked_for.delivery asks
      (record { said = replies.0.1 ∙ said_to; same = replies.1 }))
  Carries-question there judged_is (Err Failed) asks alarms are result replies =
      subst (λ (r : Result (Unit {0}) EngineFault). Carries asks_it r old new before after steps steps) (sym replies.0)
      (Carries-failed asks_it (deed_asked session asked_for) question is_said is_left old new before after steps takes sound timely same_audits judged_is (is_question asked_for.delivery) asked_for.delivery asks)
