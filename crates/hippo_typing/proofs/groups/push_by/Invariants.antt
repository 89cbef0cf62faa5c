use Rattle.std.proofs.Common.{◌≡◌, ◌++◌, map, drop}
use Rattle.hippo_typing.proofs.groups.push_by.Given as goal

abbrev pub invariant-loop-found : goal.invariant-loop-found
invariant-loop-found l = l.columns ++ map (λ found. found.1) (drop l.found-index l.by) ≡ l.fn.columns ++ map (λ found. found.1) l.by
