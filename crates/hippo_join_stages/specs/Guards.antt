-- Guards that can fail.
use Rattle.std.specs.Prelude.{Bool, true, false}
use Rattle.hippo_model.specs.declared.query.Expr.{Expr}
use Rattle.hippo_model.specs.declared.query.Expr.TheVariants.{Keep, Null, Aged, Case, Literal}

-- whether the cell of an expression can be denied, judged by the expression alone
abbrev pub can_fail : Expr → Bool
can_fail (Keep column) = false
can_fail (Null rule) = true
can_fail (Aged column rule after) = true
can_fail (Case column subject item rule opt_in after) = true
can_fail (Literal value) = false
