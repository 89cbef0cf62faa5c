-- The entry that is stored is that of the question.
use Rattle.std.proofs.Common.{subst, sym}
use Rattle.hippo_model.specs.declared.entry.Entry.{Entry}
use Rattle.hippo_engine_world.specs.Holding.{world_of}
use Rattle.hippo_engine_checks.specs.Asking.{question_of}
use Rattle.hippo_replay.specs.Standing.{MayFollow}
use Rattle.hippo_engine_queries.specs.Questions.{Asks}
use Rattle.hippo_engine_queries.proofs.questions.keep_and_answer.Goals as goal

pub keep_entry-answer-requires-clause-follows : goal.keep_entry-answer-requires-clause-follows
keep_entry-answer-requires-clause-follows g c =
    subst (λ (entry : Entry). MayFollow c.args.state.now entry) (sym c.in-Ok.ensures) c.requires.follows

pub returns-in-Ok : goal.returns-in-Ok
returns-in-Ok g c = record {
  asks =
      subst (λ (entry : Entry). Asks entry (world_of c.args.world.now) (question_of c.args.session c.args.asking.now) c.args.asking.now.delivery c.keep_entry-answer.result c.args.state.now c.keep_entry-answer.new.state (g.P.Keeper.state c.args.keeper.now) (g.P.Keeper.state c.keep_entry-answer.new.keeper))
      c.in-Ok.ensures c.keep_entry-answer.ensures.asks;
}
