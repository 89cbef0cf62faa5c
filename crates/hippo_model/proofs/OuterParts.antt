-- The outermost parts of each kind of condition.
use Rattle.std.proofs.Common.{◌≡◌, List, [], ◌∷◌, sym, ap, ◌∙◌}
use Rattle.hippo_values.specs.declared.truths.CompareOp.{CompareOp}
use Rattle.hippo_model.specs.declared.query.CondOf.{CondOf, CondOf-F, out-CondOf, out-roll-CondOf, roll-CondOf}
use Rattle.hippo_model.specs.declared.query.CondOf.TheVariants.{All, Any, Not, Compare, Between, Among, Missing, rolls-All, rolls-Any, rolls-Not, rolls-Compare, rolls-Between, rolls-Among, rolls-Missing}
use Rattle.hippo_model.specs.declared.query.CondOf.TheOpen as open_
use Rattle.hippo_model.specs.Conditions.{outer_parts}

module _ {O : Type 0} where
  opened : (d : CondOf-F O (CondOf O)) (condition : CondOf O) → roll-CondOf O d ≡ condition → out-CondOf O condition ≡ d
  opened d condition made = ap (out-CondOf O) (sym made) ∙ out-roll-CondOf O d

  pub outer_parts-All : (parts : List (CondOf O)) → outer_parts (All parts) ≡ parts
  outer_parts-All parts = rw (opened (open_.All parts) (All parts) (rolls-All parts), outer_parts)

  pub outer_parts-Any : (parts : List (CondOf O)) → outer_parts (Any parts) ≡ Any parts ∷ []
  outer_parts-Any parts = rw (opened (open_.Any parts) (Any parts) (rolls-Any parts), outer_parts)

  pub outer_parts-Not : (part : CondOf O) → outer_parts (Not part) ≡ Not part ∷ []
  outer_parts-Not part = rw (opened (open_.Not part) (Not part) (rolls-Not part), outer_parts)

  pub outer_parts-Compare : (op : CompareOp) (left right : O) → outer_parts (Compare op left right) ≡ Compare op left right ∷ []
  outer_parts-Compare op left right = rw (opened (open_.Compare op left right) (Compare op left right) (rolls-Compare op left right), outer_parts)

  pub outer_parts-Between : (operand low high : O) → outer_parts (Between operand low high) ≡ Between operand low high ∷ []
  outer_parts-Between operand low high = rw (opened (open_.Between operand low high) (Between operand low high) (rolls-Between operand low high), outer_parts)

  pub outer_parts-Among : (operand : O) (list : List O) → outer_parts (Among operand list) ≡ Among operand list ∷ []
  outer_parts-Among operand list = rw (opened (open_.Among operand list) (Among operand list) (rolls-Among operand list), outer_parts)

  pub outer_parts-Missing : (operand : O) → outer_parts (Missing operand) ≡ Missing operand ∷ []
  outer_parts-Missing operand = rw (opened (open_.Missing operand) (Missing operand) (rolls-Missing operand), outer_parts)

pub ruleset outer_parts_of = (outer_parts-All, outer_parts-Any, outer_parts-Not, outer_parts-Compare, outer_parts-Between, outer_parts-Among, outer_parts-Missing)
