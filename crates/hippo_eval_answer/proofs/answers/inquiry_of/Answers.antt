-- The rules in force, over the unmasked rows, give the answer.
use Rattle.hippo_eval_answer.proofs.AnswerLemmas.{rows_by_form-answer}
use Rattle.hippo_eval_answer.proofs.answers.inquiry_of.Goals as goal

pub returns-clause-answers : goal.returns-clause-answers
returns-clause-answers c = λ meaning history state.
    rows_by_form-answer meaning c.args.standpoint.now history c.args.query.now
    c.requires.kept state _ (c.choices_at-choices.ensures history state.book)
    _ (c.requires.rules history state.book state.tables) _ (c.in_ok-sets.ensures.rows history state.tables)
