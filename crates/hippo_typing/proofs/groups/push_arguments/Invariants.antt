use Rattle.std.proofs.Common.{◌≡◌, ◌++◌, drop, filter_map}
use Rattle.hippo_typing.specs.Found.{argument_found}
use Rattle.hippo_typing.proofs.groups.push_arguments.Given as goal

abbrev pub invariant-loop-found : goal.invariant-loop-found
invariant-loop-found l = l.columns ++ filter_map argument_found (drop l.found-index l.outs) ≡ l.fn.columns ++ filter_map argument_found l.outs
