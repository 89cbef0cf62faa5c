-- SQL's three-valued truth of a condition.
use Rattle.std.specs.Prelude.{Bool, true, false, List, [], ◌∷◌, map, flat_map}
use Rattle.hippo_values.specs.declared.values.Value.{Value}
use Rattle.hippo_values.specs.declared.values.Value.TheVariants.{Null}
use Rattle.hippo_values.specs.declared.truths.Truth.{Truth}
use Rattle.hippo_values.specs.declared.truths.Truth.TheVariants.{False, Unknown, True}
use Rattle.hippo_values.specs.declared.truths.CompareOp.TheVariants.{Eq, Le, Ge}
use Rattle.hippo_values.specs.Truths.{truth_and, truth_or, truth_not, truth_of, comparison}
use Rattle.hippo_model.specs.declared.query.CondOf.{CondOf, CondOf-F, fold-CondOf, out-CondOf}
use Rattle.hippo_model.specs.declared.query.CondOf.TheOpen.{All, Any, Not, Compare, Between, Among, Missing}
use Rattle.hippo_model.specs.declared.query.CondOf.TheVariants as conditions

abbrev pub least : List Truth → Truth
least [] = True
least (first ∷ rest) = truth_and first (least rest)

abbrev pub greatest : List Truth → Truth
greatest [] = False
greatest (first ∷ rest) = truth_or first (greatest rest)

abbrev pub is_null : Value → Bool
is_null Null = true
is_null value = false

-- the truth of a condition, given the truths of its parts
abbrev pub truth_layer : {O : Type 0} → (O → Value) → CondOf-F O Truth → Truth
truth_layer value (All parts) = least parts
truth_layer value (Any parts) = greatest parts
truth_layer value (Not part) = truth_not part
truth_layer value (Compare op left right) = comparison op (value left) (value right)
truth_layer value (Between operand low high) =
    truth_and (comparison Ge (value operand) (value low))
    (comparison Le (value operand) (value high))
truth_layer value (Among operand list) =
    greatest (map (λ member. comparison Eq (value operand) (value member)) list)
truth_layer value (Missing operand) = truth_of (is_null (value operand))

-- the truth of a condition, given a value for each operand
abbrev pub truth : {O : Type 0} → (O → Value) → CondOf O → Truth
truth {O} value condition = fold-CondOf O Truth (truth_layer value) condition

abbrev pub is_true : Truth → Bool
is_true True = true
is_true Unknown = false
is_true False = false

-- a condition with its operands replaced, given its parts with their operands replaced
abbrev pub changed_layer : {O P : Type 0} → (O → P) → CondOf-F O (CondOf P) → CondOf P
changed_layer change (All parts) = conditions.All parts
changed_layer change (Any parts) = conditions.Any parts
changed_layer change (Not part) = conditions.Not part
changed_layer change (Compare op left right) = conditions.Compare op (change left) (change right)
changed_layer change (Between operand low high) =
    conditions.Between (change operand) (change low) (change high)
changed_layer change (Among operand list) = conditions.Among (change operand) (map change list)
changed_layer change (Missing operand) = conditions.Missing (change operand)

-- a condition with its operands replaced
abbrev pub changed_operands : {O P : Type 0} → (O → P) → CondOf O → CondOf P
changed_operands {O} {P} change condition =
    fold-CondOf O (CondOf P) (changed_layer change) condition

-- the operands of a condition, given those of its parts
abbrev pub operands_layer : {O : Type 0} → CondOf-F O (List O) → List O
operands_layer (All parts) = flat_map (λ operands. operands) parts
operands_layer (Any parts) = flat_map (λ operands. operands) parts
operands_layer (Not part) = part
operands_layer (Compare op left right) = left ∷ right ∷ []
operands_layer (Between operand low high) = operand ∷ low ∷ high ∷ []
operands_layer (Among operand list) = operand ∷ list
operands_layer (Missing operand) = operand ∷ []

-- the operands of a condition, from left to right
abbrev pub operands : {O : Type 0} → CondOf O → List O
operands {O} condition = fold-CondOf O (List O) operands_layer condition

-- the parts of a condition's outermost All; a condition that is not an All is its own only part
abbrev pub outer_parts : {O : Type 0} → CondOf O → List (CondOf O)
outer_parts {O} condition = elim (out-CondOf O condition) [ All parts ↦ parts | _ ↦ condition ∷ [] ]
