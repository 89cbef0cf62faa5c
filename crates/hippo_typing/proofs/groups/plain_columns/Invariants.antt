use Rattle.std.proofs.Common.{◌≡◌, ◌++◌, drop, filter_map}
use Rattle.hippo_typing.specs.Found.{plain_found}
use Rattle.hippo_typing.proofs.groups.plain_columns.Given as goal

abbrev pub invariant-loop-found : goal.invariant-loop-found
invariant-loop-found l = l.columns ++ filter_map plain_found (drop l.found-index l.outs) ≡ filter_map plain_found l.outs
