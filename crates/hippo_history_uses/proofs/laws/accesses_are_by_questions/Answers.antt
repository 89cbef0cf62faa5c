use Rattle.hippo_history_uses.proofs.QuestionLemmas.{by_questions}
use Rattle.hippo_history_uses.proofs.laws.accesses_are_by_questions.Goals as goal

pub returns : goal.returns
returns c = by_questions
