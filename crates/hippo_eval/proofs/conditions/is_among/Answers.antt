-- One member more.
use Rattle.std.proofs.Common.{◌≡◌, ◌<◌, length, get_or, ap, arith, ◌∙◌}
use Rattle.hippo_values.specs.declared.truths.CompareOp.TheVariants.{Eq}
use Rattle.hippo_values.specs.Truths.{comparison}
use Rattle.hippo_model.specs.declared.query.Expr.{Expr}
use Rattle.hippo_model.specs.Forms.{value_in}
use Rattle.hippo_eval.specs.LentCells.{lent_cell}
use Rattle.hippo_model.specs.MaskedTruth.{masked_value}
use Rattle.hippo_eval.proofs.TruthLemmas.{greatest_more}
use Rattle.hippo_eval.proofs.conditions.is_among.Goals as goal

pub loop-member-preserved : goal.loop-member-preserved
loop-member-preserved g c =
    let f = λ (member : Expr). comparison Eq (value_in (lent_cell c.cell-value.result)) (masked_value (g.C.ChoiceView.choices c.args.choices.now) c.args.combo.now member) in
    let short : c.loop-member.member-index < length c.args.list.now = omega (arith, ap (length {A = Expr}) c.as_slice-member-items.ensures) in
    let is : c.member-item.result ≡ get_or c.args.list.now c.loop-member.member-index c.member-item.result = cc in
    let more = greatest_more f c.args.list.now c.loop-member.member-index c.member-item.result short is c.loop-member.so_far in
    rw (c.truth_or-so_far.ensures, c.compared_with-equal.ensures) (more ∙ c.loop-member.invariant)
