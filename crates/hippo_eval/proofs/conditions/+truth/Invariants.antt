-- The truth so far, combined with that of the parts from the index on.
use Rattle.std.proofs.Common.{◌≡◌, map, drop}
use Rattle.hippo_model.specs.MaskedTruth.{masked_truth}
use Rattle.hippo_eval.specs.PartTruths.{truth_of_both, truth_of_all}
use Rattle.hippo_eval.proofs.conditions.+truth.Given as goal

abbrev pub invariant-truth_of_all-loop-part : goal.invariant-truth_of_all-loop-part
invariant-truth_of_all-loop-part g l =
    truth_of_both l.all l.so_far (truth_of_all l.all (map (masked_truth (g.C.ChoiceView.choices l.choices) l.combo) (drop l.part-index l.parts)))
    ≡ truth_of_all l.all (map (masked_truth (g.C.ChoiceView.choices l.choices) l.combo) l.parts)
