-- The equalities so far and the first of the remaining ones make up the list.
use Rattle.std.proofs.Common.{◌≡◌, ◌++◌, ◌-◌, drop, take, filter, length}
use Rattle.hippo_join_implied.specs.Implied.{equality_limit, is_equality}
use Rattle.hippo_join_implied.proofs.equalities.equalities.Given as goal

abbrev pub invariant-loop-part : goal.invariant-loop-part
invariant-loop-part l =
    l.found ++ take (equality_limit - length l.found) (filter is_equality (drop l.part-index l.parts)) ≡ take equality_limit (filter is_equality l.parts)
