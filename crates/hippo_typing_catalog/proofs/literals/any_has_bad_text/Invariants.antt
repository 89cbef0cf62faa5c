use Rattle.std.proofs.Common.{◌≡◌, drop}
use Rattle.std.specs.List.{list_any}
use Rattle.hippo_typing_catalog.specs.Comparisons.{has_bad_text}
use Rattle.hippo_typing_catalog.proofs.literals.any_has_bad_text.Given as goal

abbrev pub invariant-loop-operand : goal.invariant-loop-operand
invariant-loop-operand l = list_any has_bad_text l.list ≡ list_any has_bad_text (drop l.operand-index l.list)
