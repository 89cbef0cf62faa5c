use Rattle.hippo_typing_laws.proofs.QuestionTheorem.{read_by_themselves}
use Rattle.hippo_typing_laws.proofs.questions.questions_read_by_themselves.Goals as goal

pub returns : goal.returns
returns c = read_by_themselves
