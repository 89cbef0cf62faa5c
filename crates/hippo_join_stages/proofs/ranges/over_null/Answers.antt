-- No null is above null.
use Rattle.std.proofs.Common.{◌≡◌, true, sym, subst}
use Rattle.hippo_values.specs.Order.{value_cmp}
use Rattle.hippo_values.specs.Truths.{is_allowed}
use Rattle.hippo_values.specs.declared.truths.CompareOp.TheVariants.{Gt}
use Rattle.hippo_values.specs.declared.values.Value.{Value}
use Rattle.hippo_join_stages.proofs.RangeLemmas.{over-null}
use Rattle.hippo_join_stages.proofs.ranges.over_null.Goals as goal

pub returns : goal.returns
returns c = λ value some. subst (λ (v : Value). is_allowed Gt (value_cmp value v) ≡ true) (sym c.requires) (over-null value some)
