use Rattle.std.proofs.Common.{◌∙◌}
use Rattle.hippo_lexer.proofs.NumberLemmas.{number_of-parsed}
use Rattle.hippo_csv.proofs.NumberLemmas.{numeral, number-of_numeral}
use Rattle.hippo_csv.proofs.values.number_of.Goals as goal

pub returns : goal.returns
returns c =
    let text = c.args.text.now in
    c.ok.ensures.value ∙ number_of-parsed text c.parse.result c.parse.ensures.value.0 (numeral text c.requires)
    ∙ number-of_numeral text c.requires
