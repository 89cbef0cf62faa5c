-- The search finds the row that has the key.
use Rattle.std.proofs.Common.{◌∙◌}
use Rattle.hippo_join_stages.proofs.KeyLemmas.{found-at}
use Rattle.hippo_join_stages.proofs.keys.span_with_key.Goals as goal

pub returns : goal.returns
returns c = λ place within has. c.span_of.ensures place (c.find.ensures.place ∙ found-at c.args.set.now c.args.key.now place c.len.ensures.order within has)
