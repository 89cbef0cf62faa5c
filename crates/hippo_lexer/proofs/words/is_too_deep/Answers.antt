-- Tokens that nest too deep, or negate too often, are more than the limit.
use Rattle.std.proofs.Common.{arith}
use Rattle.hippo_lexer.proofs.FewLemmas.{few_pass}
use Rattle.hippo_lexer.proofs.words.is_too_deep.Goals as goal

pub returns-else-tokens-gt-DEPTH_LIMIT : goal.returns-else-tokens-gt-DEPTH_LIMIT
returns-else-tokens-gt-DEPTH_LIMIT c = few_pass c.args.tokens.now (omega arith)
