-- One more member.
use Rattle.std.proofs.Common.{◌≡◌, ◌<◌, length, get_or, ap, arith, ◌∙◌}
use Rattle.hippo_values.specs.declared.truths.CompareOp.TheVariants.{Eq}
use Rattle.hippo_values.specs.Truths.{comparison}
use Rattle.hippo_model.specs.declared.query.Operand.{Operand}
use Rattle.hippo_model.specs.Hits.{value_in_row}
use Rattle.hippo_eval.proofs.TruthLemmas.{greatest_more}
use Rattle.hippo_watch_counts.proofs.conditions.is_among.Goals as goal

pub loop-member-preserved : goal.loop-member-preserved
loop-member-preserved c =
    let f = λ (member : Operand). comparison Eq (value_in_row c.args.row.now c.args.value.now) (value_in_row c.args.row.now member) in
    let short : c.loop-member.member-index < length c.args.list.now = omega (arith, ap (length {A = Operand}) c.as_slice-member-items.ensures) in
    let is : c.member-item.result ≡ get_or c.args.list.now c.loop-member.member-index c.member-item.result = cc in
    let more = greatest_more f c.args.list.now c.loop-member.member-index c.member-item.result short is c.loop-member.so_far in
    rw (c.truth_or-so_far.ensures, c.is_compared-equal.ensures) (more ∙ c.loop-member.invariant)
