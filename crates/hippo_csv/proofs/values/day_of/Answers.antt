use Rattle.hippo_lexer.proofs.DayLemmas.{day_of-is}
use Rattle.hippo_csv.proofs.values.day_of.Goals as goal

pub returns : goal.returns
returns c = day_of-is c.args.text.now c.read_day.result c.read_day.ensures.some c.read_day.ensures.none
