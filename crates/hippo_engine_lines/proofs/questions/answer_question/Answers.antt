-- A question is stored and answered.
use Rattle.std.proofs.Common.{sym, subst}
use Rattle.hippo_engine_sessions.specs.declared.sessions.Session.{Session}
use Rattle.hippo_engine_world.specs.Holding.{world_of}
use Rattle.hippo_engine_sessions.specs.Worlds.{session_at}
use Rattle.hippo_engine_checks.specs.declared.asking.Asking.{Asking}
use Rattle.hippo_engine_checks.specs.Asking.{question_entry}
use Rattle.hippo_engine_checks.specs.Findings.{question_by}
use Rattle.hippo_replay.specs.Standing.{MayFollow}
use Rattle.hippo_engine.proofs.CarryingLemmas.{IsBacked-of}
use Rattle.hippo_engine_lines.proofs.QuestionLemmas.{asker_same, asker_missing, judged_by, Carries-question}
use Rattle.hippo_engine_lines.proofs.questions.answer_question.Goals as goal

pub keep_and_answer-kept-requires-clause-backed : goal.keep_and_answer-kept-requires-clause-backed
keep_and_answer-kept-requires-clause-backed g c =
    IsBacked-of c.args.engine.now (g.P.Keeper.state c.args.keeper.now) c.requires.at_work

pub keep_and_answer-kept-requires-clause-follows : goal.keep_and_answer-kept-requires-clause-follows
keep_and_answer-kept-requires-clause-follows g c =
    let asks = c.requires.needs.1 in
    subst (λ (asker : Session). MayFollow c.args.engine.now.state (question_entry c.args.engine.now.state c.args.engine.now.world.clock (question_by asker c.args.question)))
    (sym (asker_same (session_at (world_of c.args.engine.now.world) c.args.question.session) c.in-Some.asker.now asks.asker c.in-Some.ensures asks.there)) asks.follows

pub unreachable-requires : goal.unreachable-requires
unreachable-requires g c =
    asker_missing (session_at (world_of c.args.engine.now.world) c.args.question.session) c.requires.needs.1.asker c.in-None.ensures c.requires.needs.1.there

pub returns-clause-carries : goal.returns-clause-carries
returns-clause-carries g c = λ command steps asks.
    let asker = c.in-Some.asker.now in
    let asking : Asking = record { asker = c.in-Some.asker; text = c.args.question.text; query = c.args.question.query; delivery = c.args.delivery } in
    let there = session_at (world_of c.args.engine.now.world) c.args.question.session in
    Carries-question c.args.question.session command asking asks.who asks.memory c.args.engine.now
    (record { state = c.keep_and_answer-kept.new.state; world = c.reply_to.new.world; reply = c.reply_to.new.reply })
    (g.P.Keeper.state c.args.keeper.now) (g.P.Keeper.state c.keep_and_answer-kept.new.keeper) steps c.requires.at_work.sound c.requires.at_work.timely c.reply_to.ensures.audits
    (sym c.in-Some.ensures)
    (judged_by command c.args.engine.now c.args.question c.args.delivery asker asks.asker (asker_same there asker asks.asker c.in-Some.ensures asks.there) asks.does)
    c.keep_and_answer-kept.result c.keep_and_answer-kept.ensures.asks
    c.alarms_of-alarms.result c.alarms_of-alarms.ensures c.reply_to.result (c.reply_to.ensures.said c.args.delivery)
