use Rattle.std.proofs.Common.{◌≡◌, map, take, drop, Bor}
use Rattle.hippo_values.specs.declared.names.Name.{Name}
use Rattle.hippo_typing_catalog.specs.Refusals.{repeated_names, repeated_after}
use Rattle.hippo_typing_catalog.proofs.repeats.check_several.Given as goal

abbrev pub invariant-loop-name : goal.invariant-loop-name
invariant-loop-name l = record {
  left : repeated_names l.names ≡ repeated_after (take l.name-index l.names) (drop l.name-index l.names);
  kept : map (λ (key : Bor Name). key.now) l.before.keys ≡ take l.name-index l.names;
}
