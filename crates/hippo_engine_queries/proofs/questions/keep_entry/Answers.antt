-- The entry is stored, and the answer is as of before it.
use Rattle.std.proofs.Common.{◌∙◌, refl}
use Rattle.hippo_engine_queries.proofs.KeptLemmas.{KeepsEntry-ok}
use Rattle.hippo_engine_queries.proofs.questions.keep_entry.Goals as goal

pub keep-requires : goal.keep-requires
keep-requires g c = record {
  may = record { backed = c.requires.backed; follows = c.requires.follows; number = c.requires.number };
}

pub answer_of-answer-requires : goal.answer_of-answer-requires
answer_of-answer-requires g c =
    let kept = c.requires.answerable.tables in
    let same = c.order_for.ensures.tables in
    record {
      tables = record {
        history = kept.history;
        stands = record { kept = λ name. same.kept name ∙ kept.stands.kept name };
        created = kept.created;
      };
    }

pub returns-in-Ok : goal.returns-in-Ok
returns-in-Ok g c =
    let keeps = c.in-Ok.ensures.keeps in
    record {
      asks = record {
        keeps = KeepsEntry-ok c.in-Ok.field-0 c.answer_of-answer.result c.args.entry.now c.args.state.now (g.P.Keeper.state c.args.keeper.now) (g.P.Keeper.state c.keep.new.keeper) keeps;
        added = λ history stands. c.take_in.ensures history (c.order_for.ensures.stands history stands) (keeps.follows refl history stands);
        same = tt;
        rows = λ history stands. c.answer_of-answer.ensures history (c.order_for.ensures.stands history stands);
      };
    }
