use Rattle.std.proofs.Common.{◌≡◌, ◌++◌, map, drop}
use Rattle.std.specs.List.{flat_map}
use Rattle.hippo_typing_catalog.specs.Comparisons.{operands_refused, condition_of}
use Rattle.hippo_typing.proofs.conditions.+found_condition.Given as goal

abbrev pub invariant-found_parts-loop-part : goal.invariant-found_parts-loop-part
invariant-found_parts-loop-part l = record {
  left : flat_map (operands_refused l.tables) l.parts ≡ flat_map (operands_refused l.tables) (drop l.part-index l.parts);
  made : l.found ++ map (condition_of l.tables) (drop l.part-index l.parts) ≡ map (condition_of l.tables) l.parts;
}
