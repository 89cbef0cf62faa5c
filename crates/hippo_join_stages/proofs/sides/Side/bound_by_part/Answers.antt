-- A comparison with its sides swapped means the same, and BETWEEN is two comparisons.
use Rattle.std.proofs.Common.{◌∷◌, [], subst}
use Rattle.hippo_values.specs.declared.truths.CompareOp.{CompareOp}
use Rattle.hippo_values.specs.declared.truths.CompareOp.TheVariants.{Le, Ge}
use Rattle.hippo_model.specs.declared.query.CondOf.TheVariants.{Compare}
use Rattle.hippo_join_stages.specs.Ranges.{flipped_operator, GivesBound}
use Rattle.hippo_join_stages.proofs.RangeLemmas.{all-turned, low-end, high-end, tells-from}
use Rattle.hippo_join_stages.proofs.sides.Side.bound_by_part.Goals as goal

pub returns-in-None : goal.returns-in-None
returns-in-None g c =
    let choices = g.C.ChoiceView.choices c.args.self.now.choices.now in
    let turned = subst (λ (op : CompareOp). GivesBound choices c.args.self.now.sets.now c.args.slots.now (Compare op c.in-Compare.right c.in-Compare.left ∷ []) c.args.column c.args.above c.bound_beside-in-None.result) c.flipped.ensures c.bound_beside-in-None.ensures in
    tells-from choices c.args.self.now.sets.now c.args.slots.now c.args.part.now _ (Compare (flipped_operator c.in-Compare.op) c.in-Compare.right c.in-Compare.left ∷ []) c.args.column c.args.above _ c.in-Compare.is (λ rows. all-turned choices rows c.in-Compare.op c.in-Compare.left c.in-Compare.right) turned

pub returns-then-above : goal.returns-then-above
returns-then-above g c =
    let choices = g.C.ChoiceView.choices c.args.self.now.choices.now in
    tells-from choices c.args.self.now.sets.now c.args.slots.now c.args.part.now _ (Compare Le c.in-Between.value c.in-Between.high ∷ []) c.args.column c.args.above _ c.in-Between.is (λ rows. high-end choices rows c.in-Between.value c.in-Between.low c.in-Between.high) c.bound_beside-then-above.ensures

pub returns-else-above : goal.returns-else-above
returns-else-above g c =
    let choices = g.C.ChoiceView.choices c.args.self.now.choices.now in
    tells-from choices c.args.self.now.sets.now c.args.slots.now c.args.part.now _ (Compare Ge c.in-Between.value c.in-Between.low ∷ []) c.args.column c.args.above _ c.in-Between.is (λ rows. low-end choices rows c.in-Between.value c.in-Between.low c.in-Between.high) c.bound_beside-else-above.ensures
