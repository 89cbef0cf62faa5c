-- The remaining parts are known exactly when all are.
use Rattle.std.proofs.Common.{◌≡◌, drop}
use Rattle.std.specs.List.{list_all}
use Rattle.hippo_join_lookups.specs.Known.{knows}
use Rattle.hippo_join_lookups.proofs.known.+knows.Given as goal

abbrev pub invariant-knows_parts-loop-part : goal.invariant-knows_parts-loop-part
invariant-knows_parts-loop-part l = list_all (knows l.slots) (drop l.part-index l.parts) ≡ list_all (knows l.slots) l.parts
