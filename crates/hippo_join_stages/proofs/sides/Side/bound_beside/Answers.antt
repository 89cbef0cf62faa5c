-- A comparison with a known value.
use Rattle.std.proofs.Common.{◌∷◌, [], subst}
use Rattle.hippo_values.specs.declared.truths.CompareOp.{CompareOp}
use Rattle.hippo_model.specs.declared.query.CondOf.TheVariants.{Compare}
use Rattle.hippo_join_stages.specs.Ranges.{IsBoundedBy}
use Rattle.hippo_join_stages.proofs.RangeLemmas.{bounded-left}
use Rattle.hippo_join_stages.proofs.sides.Side.bound_beside.Goals as goal

pub returns : goal.returns
returns g c =
    let choices = g.C.ChoiceView.choices c.args.self.now.choices.now in
    let sets = c.args.self.now.sets.now in
    let slots = c.args.slots.now in
    let left = c.args.left.now in
    let right = c.args.right.now in
    let value = c.in_ok-value.value.now in
    subst (λ (op : CompareOp). IsBoundedBy choices sets slots (Compare c.args.op left right ∷ []) c.args.column op value) c.in_ok-strict.ensures
    (bounded-left choices sets slots left right c.args.column c.args.op value (c.shows_column.ensures c.if-not-shows_column.false) c.in_ok-value.ensures)
