-- The results so far and the remaining ones make up the whole list.
use Rattle.std.proofs.Common.{◌≡◌, ◌++◌, Some}
use Rattle.std.specs.Vec.Iter.{into_iter_items}
use Rattle.hippo_values.specs.Options.{◌>>=◌}
use Rattle.hippo_spj_reader.specs.SelectFinder.{each_of}
use Rattle.hippo_spj_reader.proofs.selects.each.Given as goal

abbrev pub invariant-loop-member : goal.invariant-loop-member
invariant-loop-member g l =
    (each_of g.T.OfMember.of (into_iter_items l.member-iterator) >>= λ rest. Some (l.list ++ rest)) ≡ each_of g.T.OfMember.of l.fn.members
