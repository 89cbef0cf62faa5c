use Rattle.std.proofs.Common.{◌≡◌, ◌++◌, ◌∷◌, drop, filter_map}
use Rattle.std.specs.Prelude.{option_to_list}
use Rattle.hippo_typing_catalog.specs.Comparisons.{are_alike, operand_kind}
use Rattle.hippo_typing_catalog.proofs.kinds.mixes_list.Given as goal

abbrev pub invariant-loop-member : goal.invariant-loop-member
invariant-loop-member l =
    are_alike (filter_map (operand_kind l.tables) (l.value ∷ l.list)) ≡ are_alike (option_to_list l.first ++ filter_map (operand_kind l.tables) (drop l.member-index l.list))
