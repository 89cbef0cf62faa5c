use Rattle.std.proofs.Common.{None, sym, arith}
use Rattle.std.proofs.lemmas.Str.Pattern.{strip_prefix_char}
use Rattle.hippo_lexer.proofs.QuoteLemmas.{quoted_first-none}
use Rattle.hippo_lexer.proofs.parts.quoted_first.Goals as goal

pub returns-in-None-clause-found : goal.returns-in-None-clause-found
returns-in-None-clause-found c =
    sym (quoted_first-none c.args.text.now (strip_prefix_char 39 c.args.text.now None c.in-None.ensures.cases (omega arith)))
