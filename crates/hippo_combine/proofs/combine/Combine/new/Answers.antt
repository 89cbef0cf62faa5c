-- Nothing is held at first.
use Rattle.std.proofs.Common.{refl}
use Rattle.hippo_combine.proofs.ExaminingLemmas.{new_is}
use Rattle.hippo_combine.proofs.combine.Combine.new.Goals as goal

pub returns : goal.returns
returns c = new_is _ c.new.ensures.items refl
