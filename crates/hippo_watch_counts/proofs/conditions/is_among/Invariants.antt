-- The truth so far, and that of the members from the index on.
use Rattle.std.proofs.Common.{◌≡◌, map, drop}
use Rattle.hippo_values.specs.declared.truths.CompareOp.TheVariants.{Eq}
use Rattle.hippo_values.specs.Truths.{truth_or, comparison}
use Rattle.hippo_model.specs.Conditions.{greatest}
use Rattle.hippo_model.specs.Hits.{value_in_row}
use Rattle.hippo_watch_counts.proofs.conditions.is_among.Given as goal

abbrev pub invariant-loop-member : goal.invariant-loop-member
invariant-loop-member l =
    truth_or l.so_far (greatest (map (λ member. comparison Eq (value_in_row l.row l.value) (value_in_row l.row member)) (drop l.member-index l.list)))
    ≡ greatest (map (λ member. comparison Eq (value_in_row l.row l.value) (value_in_row l.row member)) l.list)
