use Rattle.hippo_rewrite.proofs.MaskedAnswers.{masked_answer-rewritten_query}
use Rattle.hippo_rewrite.proofs.laws.rewriting_masks.Goals as goal

pub returns : goal.returns
returns c = λ rules query choices. masked_answer-rewritten_query choices rules query
