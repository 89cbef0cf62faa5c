-- The added parts and the remaining ones make up the list.
use Rattle.std.proofs.Common.{◌≡◌, ◌++◌}
use Rattle.std.specs.Vec.Iter.{into_iter_items}
use Rattle.hippo_join_implied.proofs.implied.append.Given as goal

abbrev pub invariant-loop-part : goal.invariant-loop-part
invariant-loop-part l = l.parts ++ into_iter_items l.part-iterator ≡ l.initial.parts ++ l.fn.more
