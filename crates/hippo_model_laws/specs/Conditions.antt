-- Laws on conditions.
use Rattle.std.specs.Prelude.{◌≡◌}
use Rattle.hippo_values.specs.declared.values.Value.{Value}
use Rattle.hippo_model.specs.declared.query.CondOf.{CondOf}
use Rattle.hippo_model.specs.Conditions.{truth, changed_operands}

-- the truth of a condition with its operands replaced is that of the condition itself, with each
-- operand valued as its replacement
abbrev pub TruthIsThatOfOperands : Type 0 → Type 0 → Type 0
TruthIsThatOfOperands O P =
    (change : O → P) (value : P → Value) (condition : CondOf O)
    → truth value (changed_operands change condition)
    ≡ truth (λ operand. value (change operand)) condition
