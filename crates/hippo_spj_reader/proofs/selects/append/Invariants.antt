-- The added members and the remaining ones make up the whole list.
use Rattle.std.proofs.Common.{◌≡◌, ◌++◌}
use Rattle.std.specs.Vec.Iter.{into_iter_items}
use Rattle.hippo_spj_reader.proofs.selects.append.Given as goal

abbrev pub invariant-loop-member : goal.invariant-loop-member
invariant-loop-member l = l.list ++ into_iter_items l.member-iterator ≡ l.fn.list ++ l.fn.members
