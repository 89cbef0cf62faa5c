-- The last choice of the patient on the item.
use Rattle.std.proofs.Common.{w64}
use Rattle.std.proofs.lemmas.Int.{to_z-of_z}
use Rattle.hippo_policy.proofs.book.PolicyBook.choice_at.Goals as goal

pub returns : goal.returns
returns c = rw (to_z-of_z w64 c.args.subject c.ranges.subject) at c.choice_of.ensures.history
