use Rattle.std.proofs.Common.{◌≡◌, drop}
use Rattle.std.specs.List.{flat_map}
use Rattle.hippo_typing.specs.Found.{lone_found}
use Rattle.hippo_typing.proofs.groups.check_among.Given as goal

abbrev pub invariant-loop-found : goal.invariant-loop-found
invariant-loop-found l = flat_map (lone_found l.others) l.columns ≡ flat_map (lone_found l.others) (drop l.found-index l.columns)
