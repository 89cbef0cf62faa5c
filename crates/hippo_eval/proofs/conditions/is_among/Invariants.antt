-- The truth so far, combined with that of the members from the index on.
use Rattle.std.proofs.Common.{◌≡◌, map, drop}
use Rattle.hippo_values.specs.declared.truths.CompareOp.TheVariants.{Eq}
use Rattle.hippo_values.specs.Truths.{truth_or, comparison}
use Rattle.hippo_model.specs.Conditions.{greatest}
use Rattle.hippo_model.specs.Forms.{value_in}
use Rattle.hippo_eval.specs.LentCells.{lent_cell}
use Rattle.hippo_model.specs.MaskedTruth.{masked_value}
use Rattle.hippo_eval.proofs.conditions.is_among.Given as goal

abbrev pub invariant-loop-member : goal.invariant-loop-member
invariant-loop-member g l =
    truth_or l.so_far (greatest (map (λ member. comparison Eq (value_in (lent_cell l.value)) (masked_value (g.C.ChoiceView.choices l.choices) l.combo member)) (drop l.member-index l.list)))
    ≡ greatest (map (λ member. comparison Eq (value_in (lent_cell l.value)) (masked_value (g.C.ChoiceView.choices l.choices) l.combo member)) l.list)
