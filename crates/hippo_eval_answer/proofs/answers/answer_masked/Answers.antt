-- The masked query over its rows gives the answer.
use Rattle.std.proofs.Common.{List, subst}
use Rattle.hippo_model.specs.Terms.{ShownRow}
use Rattle.hippo_eval.specs.Answering.{IsAnswered}
use Rattle.hippo_eval.specs.declared.answers.TheConstants.{ANSWER_LIMIT}
use Rattle.hippo_eval_answer.proofs.answers.answer_masked.Goals as goal

pub returns : goal.returns
returns c = λ meaning history state.
    subst (λ (rows : List ShownRow). IsAnswered ANSWER_LIMIT rows c.formed-answer.result) (c.in_ok-inquiry.ensures.answers meaning history state) c.formed-answer.ensures
