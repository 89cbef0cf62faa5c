-- The last choice among those that are kept.
use Rattle.std.proofs.Common.{w64}
use Rattle.std.proofs.lemmas.Int.{to_z-of_z}
use Rattle.hippo_policy.proofs.choices.ChoicesAtChoiceView.choice.Goals as goal

pub returns : goal.returns
returns c = rw (to_z-of_z w64 c.args.subject c.ranges.subject) at c.choice_of.ensures.kept
