use Rattle.hippo_typing_laws.proofs.QuestionTheorem.{found_read_by_themselves}
use Rattle.hippo_typing_laws.proofs.questions.found_questions_read_by_themselves.Goals as goal

pub returns : goal.returns
returns c = found_read_by_themselves
