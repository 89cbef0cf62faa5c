-- Replacing each operand by itself leaves a condition unchanged; by induction over the condition.
use Rattle.std.proofs.Common.{◌≡◌, List, [], ◌∷◌, map, refl, sym, ap, subst, ◌∙◌}
use Rattle.std.proofs.lemmas.List.{map-id}
use Rattle.hippo_model.specs.declared.query.CondOf.{CondOf, CondOf-F, fold-roll-CondOf, roll-CondOf, map-CondOf, ind-CondOf}
use Rattle.hippo_model.specs.declared.query.CondOf.TheVariants as conditions
use Rattle.hippo_model.specs.declared.query.CondOf.TheOpen.{All, Any, Not, Compare, Between, Among, Missing}
use Rattle.hippo_model.specs.Conditions.{changed_layer, changed_operands}

module _ (O : Type 0) where
  abbrev pub same : O → O
  same operand = operand

  abbrev pub Unchanged : CondOf O → Type 0
  Unchanged condition = changed_operands same condition ≡ condition

  abbrev Kept : Type 0
  Kept = (condition : CondOf O) × Unchanged condition

  abbrev parts_of : List Kept → List (CondOf O)
  parts_of parts = map (λ part. part.0) parts

  parts_unchanged : (parts : List Kept) → map (changed_operands same) (parts_of parts) ≡ parts_of parts
  parts_unchanged [] = refl
  parts_unchanged (part ∷ parts) = λ i. part.1 i ∷ parts_unchanged parts i

  abbrev plain_layer : CondOf-F O Kept → CondOf-F O (CondOf O)
  plain_layer layer = map-CondOf O Kept (CondOf O) (λ part. part.0) layer

  -- one layer whose parts are unchanged
  layer_unchanged : (layer : CondOf-F O Kept) → changed_layer same (map-CondOf O (CondOf O) (CondOf O) (changed_operands same) (plain_layer layer)) ≡ roll-CondOf O (plain_layer layer)
  layer_unchanged (All parts) = ap conditions.All (parts_unchanged parts) ∙ sym (conditions.rolls-All (parts_of parts))
  layer_unchanged (Any parts) = ap conditions.Any (parts_unchanged parts) ∙ sym (conditions.rolls-Any (parts_of parts))
  layer_unchanged (Not part) = ap conditions.Not part.1 ∙ sym (conditions.rolls-Not part.0)
  layer_unchanged (Compare op left right) = sym (conditions.rolls-Compare op left right)
  layer_unchanged (Between operand low high) = sym (conditions.rolls-Between operand low high)
  layer_unchanged (Among operand list) = ap (conditions.Among operand) (map-id list) ∙ sym (conditions.rolls-Among operand list)
  layer_unchanged (Missing operand) = sym (conditions.rolls-Missing operand)

  rolled_unchanged : (layer : CondOf-F O Kept) → Unchanged (roll-CondOf O (plain_layer layer))
  rolled_unchanged layer = fold-roll-CondOf O (CondOf O) (changed_layer same) (plain_layer layer) ∙ layer_unchanged layer

  pub unchanged : (condition : CondOf O) → Unchanged condition
  unchanged = ind-CondOf O Unchanged (λ layer parts is. subst (λ (plain : CondOf-F O (CondOf O)). Unchanged (roll-CondOf O plain)) is (rolled_unchanged parts))
