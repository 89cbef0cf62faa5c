-- What the parts so far imply and what the remaining ones do make up the list.
use Rattle.std.proofs.Common.{◌≡◌, ◌++◌, ◌-◌, drop, length}
use Rattle.hippo_join_implied.specs.Implied.{implied_limit, implied_from}
use Rattle.hippo_join_implied.proofs.implied.implied_from.Given as goal

abbrev pub invariant-loop-part : goal.invariant-loop-part
invariant-loop-part l =
    l.implied ++ implied_from (implied_limit - length l.implied) l.equalities (drop l.part-index l.parts) ≡ implied_from implied_limit l.equalities l.parts
