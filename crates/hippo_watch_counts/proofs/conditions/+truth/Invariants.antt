-- The truth so far, and that of the parts from the index on.
use Rattle.std.proofs.Common.{◌≡◌, map, drop}
use Rattle.hippo_values.specs.Truths.{truth_and, truth_or}
use Rattle.hippo_model.specs.Conditions.{least, greatest}
use Rattle.hippo_watch_counts.specs.Rows.{row_truth}
use Rattle.hippo_watch_counts.proofs.conditions.+truth.Given as goal

abbrev pub invariant-least-loop-part : goal.invariant-least-loop-part
invariant-least-loop-part l =
    truth_and l.so_far (least (map (row_truth l.row) (drop l.part-index l.parts))) ≡ least (map (row_truth l.row) l.parts)

abbrev pub invariant-greatest-loop-part : goal.invariant-greatest-loop-part
invariant-greatest-loop-part l =
    truth_or l.so_far (greatest (map (row_truth l.row) (drop l.part-index l.parts))) ≡ greatest (map (row_truth l.row) l.parts)
