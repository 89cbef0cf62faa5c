-- The truth of a condition in a combination of unmasked rows.
use Rattle.hippo_values.specs.declared.values.Value.{Value}
use Rattle.hippo_values.specs.declared.truths.Truth.{Truth}
use Rattle.hippo_model.specs.declared.query.CondOf.{CondOf}
use Rattle.hippo_model.specs.declared.query.Expr.{Expr}
use Rattle.hippo_model.specs.Terms.{Combination}
use Rattle.hippo_model.specs.Conditions.{truth}
use Rattle.hippo_model.specs.Forms.{value_in}
use Rattle.hippo_model.specs.Masking.{Choices, masked_cell}

-- the value of an expression in a comparison
abbrev pub masked_value : Choices → Combination → Expr → Value
masked_value choices rows expr = value_in (masked_cell choices rows expr)

abbrev pub masked_truth : Choices → Combination → CondOf Expr → Truth
masked_truth choices rows condition = truth (masked_value choices rows) condition
