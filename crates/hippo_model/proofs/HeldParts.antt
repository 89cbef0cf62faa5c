-- A condition is true exactly when the parts of its outermost All are true.
use Rattle.std.proofs.Common.{◌≡◌, Bool, true, ◌&&◌, List, [], ◌∷◌, map, refl, sym, ap, subst, ◌∙◌}
use Rattle.std.specs.List.{list_all}
use Rattle.std.proofs.Math.Bool.{and-true}
use Rattle.hippo_values.specs.declared.values.Value.{Value}
use Rattle.hippo_values.specs.declared.truths.Truth.{Truth}
use Rattle.hippo_values.specs.declared.truths.Truth.TheVariants.{False, Unknown, True}
use Rattle.hippo_values.specs.Truths.{truth_and}
use Rattle.hippo_model.specs.declared.query.CondOf.{CondOf, CondOf-F, roll-CondOf, ind-CondOf, out-roll-CondOf}
use Rattle.hippo_model.specs.declared.query.CondOf.TheOpen.{All, Any, Not, Compare, Between, Among, Missing}
use Rattle.hippo_model.specs.declared.query.CondOf.TheVariants.{rolls-All}
use Rattle.hippo_model.specs.Conditions.{least, truth, is_true, outer_parts}
use Rattle.hippo_model.proofs.Truths.{truth-All}

module _ {O : Type 0} (value : O → Value) where
  abbrev is_held : CondOf O → Bool
  is_held part = is_true (truth value part)

  true_both : (a b : Truth) → is_true (truth_and a b) ≡ (is_true a && is_true b)
  true_both False b = refl
  true_both Unknown False = refl
  true_both Unknown Unknown = refl
  true_both Unknown True = refl
  true_both True b = refl

  all_held : (parts : List (CondOf O)) → list_all is_held parts ≡ is_true (least (map (truth value) parts))
  all_held [] = refl
  all_held (part ∷ parts) = ap (λ b. is_held part && b) (all_held parts) ∙ sym (true_both (truth value part) (least (map (truth value) parts)))

  abbrev parts_in : CondOf-F O (CondOf O) → CondOf O → List (CondOf O)
  parts_in layer condition = elim layer [ All parts ↦ parts | _ ↦ condition ∷ [] ]

  abbrev IsSame : CondOf O → Type 0
  IsSame condition = list_all is_held (outer_parts condition) ≡ is_held condition

  by_layer : (layer : CondOf-F O (CondOf O)) → list_all is_held (parts_in layer (roll-CondOf O layer)) ≡ is_held (roll-CondOf O layer)
  by_layer (All parts) = all_held parts ∙ sym (ap is_true (truth-All value parts)) ∙ sym (ap is_held (rolls-All parts))
  by_layer (Any parts) = and-true (is_held (roll-CondOf O (Any parts)))
  by_layer (Not part) = and-true (is_held (roll-CondOf O (Not part)))
  by_layer (Compare op left right) = and-true (is_held (roll-CondOf O (Compare op left right)))
  by_layer (Between operand low high) = and-true (is_held (roll-CondOf O (Between operand low high)))
  by_layer (Among operand list) = and-true (is_held (roll-CondOf O (Among operand list)))
  by_layer (Missing operand) = and-true (is_held (roll-CondOf O (Missing operand)))

  opened : (layer : CondOf-F O (CondOf O)) → IsSame (roll-CondOf O layer)
  opened layer = subst (λ (l : CondOf-F O (CondOf O)). list_all is_held (parts_in l (roll-CondOf O layer)) ≡ is_held (roll-CondOf O layer)) (sym (out-roll-CondOf O layer)) (by_layer layer)

  -- the parts are true exactly when the condition is
  pub parts-hold : (condition : CondOf O) → IsSame condition
  parts-hold = ind-CondOf O IsSame (λ layer parts is. opened layer)
