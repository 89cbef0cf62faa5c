-- The truth of a condition with replaced operands, by induction over the condition.
use Rattle.std.proofs.Common.{◌≡◌, List, [], ◌∷◌, map, refl, sym, ap, subst, ◌∙◌}
use Rattle.hippo_values.specs.declared.values.Value.{Value}
use Rattle.hippo_values.specs.declared.truths.Truth.{Truth}
use Rattle.hippo_values.specs.declared.truths.CompareOp.TheVariants.{Eq}
use Rattle.hippo_values.specs.Truths.{truth_and, truth_or, truth_not, comparison}
use Rattle.hippo_model.specs.declared.query.CondOf.{CondOf, CondOf-F, fold-roll-CondOf, roll-CondOf, map-CondOf, ind-CondOf}
use Rattle.hippo_model.specs.declared.query.CondOf.TheOpen.{All, Any, Not, Compare, Between, Among, Missing}
use Rattle.hippo_model.specs.Conditions.{least, greatest, truth_layer, truth, changed_layer, changed_operands}
use Rattle.hippo_model.proofs.Truths.{truth-All, truth-Any, truth-Not, truth-Compare, truth-Between, truth-Among, truth-Missing}

module _ {O P : Type 0} (change : O → P) (value : P → Value) where
  -- the value of an operand's replacement
  abbrev changed_value : O → Value
  changed_value operand = value (change operand)

  abbrev Agrees : CondOf O → Type 0
  Agrees condition = truth value (changed_operands change condition) ≡ truth changed_value condition

  abbrev Agreeing : Type 0
  Agreeing = (condition : CondOf O) × Agrees condition

  abbrev parts_of : List Agreeing → List (CondOf O)
  parts_of parts = map (λ part. part.0) parts

  least_agrees : (parts : List Agreeing) → least (map (truth value) (map (changed_operands change) (parts_of parts))) ≡ least (map (truth changed_value) (parts_of parts))
  least_agrees [] = refl
  least_agrees (part ∷ parts) = λ i. truth_and (part.1 i) (least_agrees parts i)

  greatest_agrees : (parts : List Agreeing) → greatest (map (truth value) (map (changed_operands change) (parts_of parts))) ≡ greatest (map (truth changed_value) (parts_of parts))
  greatest_agrees [] = refl
  greatest_agrees (part ∷ parts) = λ i. truth_or (part.1 i) (greatest_agrees parts i)

  members_agree : (operand : O) (list : List O) → greatest (map (λ member. comparison Eq (changed_value operand) (value member)) (map change list)) ≡ greatest (map (λ member. comparison Eq (changed_value operand) (changed_value member)) list)
  members_agree operand [] = refl
  members_agree operand (member ∷ list) = ap (truth_or (comparison Eq (changed_value operand) (changed_value member))) (members_agree operand list)

  abbrev plain_layer : CondOf-F O Agreeing → CondOf-F O (CondOf O)
  plain_layer layer = map-CondOf O Agreeing (CondOf O) (λ part. part.0) layer

  -- one layer whose parts agree
  layer_agrees : (layer : CondOf-F O Agreeing) → truth value (changed_layer change (map-CondOf O (CondOf O) (CondOf P) (changed_operands change) (plain_layer layer)))
      ≡ truth_layer changed_value (map-CondOf O (CondOf O) Truth (truth changed_value) (plain_layer layer))
  layer_agrees (All parts) = truth-All value (map (changed_operands change) (parts_of parts)) ∙ least_agrees parts
  layer_agrees (Any parts) = truth-Any value (map (changed_operands change) (parts_of parts)) ∙ greatest_agrees parts
  layer_agrees (Not part) = truth-Not value (changed_operands change part.0) ∙ ap truth_not part.1
  layer_agrees (Compare op left right) = truth-Compare value op (change left) (change right)
  layer_agrees (Between operand low high) = truth-Between value (change operand) (change low) (change high)
  layer_agrees (Among operand list) = truth-Among value (change operand) (map change list) ∙ members_agree operand list
  layer_agrees (Missing operand) = truth-Missing value (change operand)

  rolled_agrees : (layer : CondOf-F O Agreeing) → Agrees (roll-CondOf O (plain_layer layer))
  rolled_agrees layer =
      ap (truth value) (fold-roll-CondOf O (CondOf P) (changed_layer change) (plain_layer layer)) ∙ layer_agrees layer ∙ sym (fold-roll-CondOf O Truth (truth_layer changed_value) (plain_layer layer))

  pub agrees : (condition : CondOf O) → Agrees condition
  agrees = ind-CondOf O Agrees (λ layer parts is. subst (λ (plain : CondOf-F O (CondOf O)). Agrees (roll-CondOf O plain)) is (rolled_agrees parts))
