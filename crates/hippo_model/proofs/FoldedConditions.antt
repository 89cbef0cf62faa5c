-- The fold of each kind of condition, by the folds of its parts.
use Rattle.std.proofs.Common.{◌≡◌, List, map, sym, ap, ◌∙◌}
use Rattle.hippo_values.specs.declared.truths.CompareOp.{CompareOp}
use Rattle.hippo_model.specs.declared.query.CondOf.{CondOf, CondOf-F, fold-CondOf, fold-roll-CondOf, roll-CondOf, map-CondOf}
use Rattle.hippo_model.specs.declared.query.CondOf.TheVariants.{All, Any, Not, Compare, Between, Among, Missing, rolls-All, rolls-Any, rolls-Not, rolls-Compare, rolls-Between, rolls-Among, rolls-Missing}
use Rattle.hippo_model.specs.declared.query.CondOf.TheOpen as open_

module _ {O A : Type 0} (layer : CondOf-F O A → A) where
  abbrev folded : CondOf O → A
  folded condition = fold-CondOf O A layer condition

  by_layer : (d : CondOf-F O (CondOf O)) (condition : CondOf O) → roll-CondOf O d ≡ condition → folded condition ≡ layer (map-CondOf O (CondOf O) A folded d)
  by_layer d condition made = ap folded (sym made) ∙ fold-roll-CondOf O A layer d

  pub folded-All : (parts : List (CondOf O)) → folded (All parts) ≡ layer (open_.All (map folded parts))
  folded-All parts = by_layer (open_.All parts) (All parts) (rolls-All parts)

  pub folded-Any : (parts : List (CondOf O)) → folded (Any parts) ≡ layer (open_.Any (map folded parts))
  folded-Any parts = by_layer (open_.Any parts) (Any parts) (rolls-Any parts)

  pub folded-Not : (part : CondOf O) → folded (Not part) ≡ layer (open_.Not (folded part))
  folded-Not part = by_layer (open_.Not part) (Not part) (rolls-Not part)

  pub folded-Compare : (op : CompareOp) (left right : O) → folded (Compare op left right) ≡ layer (open_.Compare op left right)
  folded-Compare op left right = by_layer (open_.Compare op left right) (Compare op left right) (rolls-Compare op left right)

  pub folded-Between : (operand low high : O) → folded (Between operand low high) ≡ layer (open_.Between operand low high)
  folded-Between operand low high = by_layer (open_.Between operand low high) (Between operand low high) (rolls-Between operand low high)

  pub folded-Among : (operand : O) (list : List O) → folded (Among operand list) ≡ layer (open_.Among operand list)
  folded-Among operand list = by_layer (open_.Among operand list) (Among operand list) (rolls-Among operand list)

  pub folded-Missing : (operand : O) → folded (Missing operand) ≡ layer (open_.Missing operand)
  folded-Missing operand = by_layer (open_.Missing operand) (Missing operand) (rolls-Missing operand)

pub ruleset folded_conditions = (folded-All, folded-Any, folded-Not, folded-Compare, folded-Between, folded-Among, folded-Missing)
