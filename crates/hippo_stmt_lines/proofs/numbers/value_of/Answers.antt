use Rattle.std.proofs.Common.{◌∙◌}
use Rattle.hippo_stmt_lines.proofs.ValueLemmas.{value-parsed}
use Rattle.hippo_stmt_lines.proofs.numbers.value_of.Goals as goal

pub returns : goal.returns
returns c = c.ok.ensures.value ∙ value-parsed c.args.word.now c.parse.result c.requires c.parse.ensures.value.0
