-- The truth of each kind of condition, by the truths of its parts.
use Rattle.std.proofs.Common.{◌≡◌, List, map}
use Rattle.hippo_values.specs.declared.values.Value.{Value}
use Rattle.hippo_values.specs.declared.truths.Truth.{Truth}
use Rattle.hippo_values.specs.declared.truths.CompareOp.{CompareOp}
use Rattle.hippo_values.specs.declared.truths.CompareOp.TheVariants.{Eq, Le, Ge}
use Rattle.hippo_values.specs.Truths.{truth_and, truth_not, truth_of, comparison}
use Rattle.hippo_model.specs.declared.query.CondOf.{CondOf}
use Rattle.hippo_model.specs.declared.query.CondOf.TheVariants.{All, Any, Not, Compare, Between, Among, Missing}
use Rattle.hippo_model.specs.Conditions.{least, greatest, is_null, truth_layer, truth}
use Rattle.hippo_model.proofs.FoldedConditions.{folded-All, folded-Any, folded-Not, folded-Compare, folded-Between, folded-Among, folded-Missing}

module _ {O : Type 0} (value : O → Value) where
  pub truth-All : (parts : List (CondOf O)) → truth value (All parts) ≡ least (map (truth value) parts)
  truth-All parts = folded-All (truth_layer value) parts

  pub truth-Any : (parts : List (CondOf O)) → truth value (Any parts) ≡ greatest (map (truth value) parts)
  truth-Any parts = folded-Any (truth_layer value) parts

  pub truth-Not : (part : CondOf O) → truth value (Not part) ≡ truth_not (truth value part)
  truth-Not part = folded-Not (truth_layer value) part

  pub truth-Compare : (op : CompareOp) (left right : O) → truth value (Compare op left right) ≡ comparison op (value left) (value right)
  truth-Compare op left right = folded-Compare (truth_layer value) op left right

  pub truth-Between : (operand low high : O) → truth value (Between operand low high) ≡ truth_and (comparison Ge (value operand) (value low)) (comparison Le (value operand) (value high))
  truth-Between operand low high = folded-Between (truth_layer value) operand low high

  pub truth-Among : (operand : O) (list : List O) → truth value (Among operand list) ≡ greatest (map (λ member. comparison Eq (value operand) (value member)) list)
  truth-Among operand list = folded-Among (truth_layer value) operand list

  pub truth-Missing : (operand : O) → truth value (Missing operand) ≡ truth_of (is_null (value operand))
  truth-Missing operand = folded-Missing (truth_layer value) operand

pub ruleset truths = (truth-All, truth-Any, truth-Not, truth-Compare, truth-Between, truth-Among, truth-Missing)
