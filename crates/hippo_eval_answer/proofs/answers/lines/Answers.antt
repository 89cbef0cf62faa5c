use Rattle.hippo_eval_answer.proofs.answers.lines.Goals as goal

pub returns-in_default : goal.returns-in_default
returns-in_default c = c.said.ensures _ c.formed.ensures
