use Rattle.std.proofs.Common.{◌∙◌}
use Rattle.hippo_lexer.proofs.NumberLemmas.{number_of-parsed}
use Rattle.hippo_lexer.proofs.parts.number_of.Goals as goal

pub returns : goal.returns
returns c = c.ok.ensures.value ∙ number_of-parsed c.args.text.now c.parse.result c.parse.ensures.value.0 c.requires
