use Rattle.std.proofs.Common.{◌∙◌, ap}
use Rattle.hippo_lexer.specs.Cutting.{day_of}
use Rattle.hippo_lexer.proofs.DayLemmas.{day_of-is}
use Rattle.hippo_lexer.proofs.parts.day_of.Goals as goal

pub returns : goal.returns
returns c = day_of-is c.as_str.result.now c.read_day.result c.read_day.ensures.some c.read_day.ensures.none ∙ ap day_of c.as_str.ensures
