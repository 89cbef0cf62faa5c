-- The parts so far and those of the remaining conditions make up the whole list.
use Rattle.std.proofs.Common.{◌≡◌, ◌++◌}
use Rattle.std.specs.List.{flat_map}
use Rattle.std.specs.Vec.Iter.{into_iter_items}
use Rattle.hippo_model.specs.Conditions.{outer_parts}
use Rattle.hippo_spj_reader.proofs.selects.all_parts.Given as goal

abbrev pub invariant-loop-condition : goal.invariant-loop-condition
invariant-loop-condition l =
    l.parts ++ flat_map outer_parts (into_iter_items l.condition-iterator) ≡ flat_map outer_parts l.fn.conditions
