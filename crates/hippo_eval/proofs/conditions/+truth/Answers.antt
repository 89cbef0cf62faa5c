-- One part more.
use Rattle.std.proofs.Common.{length, ap, arith, ◌∙◌}
use Rattle.hippo_model.specs.declared.query.CondOf.{CondOf}
use Rattle.hippo_model.specs.declared.query.Expr.{Expr}
use Rattle.hippo_model.specs.MaskedTruth.{masked_truth}
use Rattle.hippo_eval.specs.PartTruths.{truth_of_both}
use Rattle.hippo_eval.proofs.TruthLemmas.{part_more, part_settled}
use Rattle.hippo_eval.proofs.conditions.+truth.Goals as goal

pub truth_of_all-loop-part-preserved : goal.truth_of_all-loop-part-preserved
truth_of_all-loop-part-preserved g t c =
    part_more (masked_truth (g.C.ChoiceView.choices c.args.choices.now) c.args.combo.now) c.args.parts.now c.loop-part.part-index c.part-item.result (omega (arith, ap (length {A = CondOf Expr}) c.as_slice-part-items.ensures, c.loop-part-test.true)) (cc) c.loop-part.so_far
    c.args.all c.truth_of_both-so_far.result _ (c.truth_of_both-so_far.ensures ∙ ap (truth_of_both c.args.all c.loop-part.so_far) c.part_truth.ensures) c.loop-part.invariant

pub truth_of_all-returns-then-is_settled : goal.truth_of_all-returns-then-is_settled
truth_of_all-returns-then-is_settled g t c =
    part_settled (masked_truth (g.C.ChoiceView.choices c.args.choices.now) c.args.combo.now) c.args.parts.now c.loop-part.part-index c.part-item.result (omega (arith, ap (length {A = CondOf Expr}) c.as_slice-part-items.ensures, c.loop-part-test.true)) (cc) c.loop-part.so_far
    c.args.all c.truth_of_both-so_far.result _ (c.truth_of_both-so_far.ensures ∙ ap (truth_of_both c.args.all c.loop-part.so_far) c.part_truth.ensures) c.loop-part.invariant (c.is_settled.ensures c.if-is_settled.true)
